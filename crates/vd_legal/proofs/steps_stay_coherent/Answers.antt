use Rattle.vd_legal.proofs.Laws.{since-kept, coherent-kept, room-kept, storage-kept}
use Rattle.vd_legal.proofs.steps_stay_coherent.Goals as goal

-- src/lib.rt:20:1
pub returns-clause-since : goal.returns-clause-since
returns-clause-since g c i a b step was = since-kept step was

-- src/lib.rt:20:1
pub returns-clause-coherent : goal.returns-clause-coherent
returns-clause-coherent g c i a b step was = coherent-kept step was

-- src/lib.rt:20:1
pub returns-clause-room : goal.returns-clause-room
returns-clause-room g c i a b step was = room-kept step was

-- src/lib.rt:20:1
pub returns-clause-storage : goal.returns-clause-storage
returns-clause-storage g c i a b step was = storage-kept step was
