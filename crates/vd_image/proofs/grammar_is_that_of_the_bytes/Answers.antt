use Rattle.vd_image.proofs.Decoders.{entry_is_mapping}
use Rattle.vd_image.proofs.Records.{read_record_is_facts}
use Rattle.vd_image.proofs.grammar_is_that_of_the_bytes.Goals as goal

pub returns : goal.returns
returns c = record { entries = entry_is_mapping; records = read_record_is_facts }
