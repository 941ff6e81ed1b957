use Rattle.vd_file.proofs.Flight.{known, settles, takes_on}
use Rattle.vd_file.proofs.store.FileStoreStore.wait.Goals as goal

pub work-is_done-requires-clause-inside : goal.work-is_done-requires-clause-inside
work-is_done-requires-clause-inside c = (known _ _ c.requires.mine).0

pub returns-clause-settles : goal.returns-clause-settles
returns-clause-settles c = settles _ _ _ _ _ _ _ c.end.ensures.answer c.work-is_done.ensures.unread (takes_on c.args.self.now _ c.work-is_done.new.self.unsure _ (rw c.work-is_done.ensures.after at c.end.ensures.flight))
