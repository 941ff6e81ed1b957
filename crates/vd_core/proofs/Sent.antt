-- A core may go to another thread where its devices may, and threads may share it where they may share its devices.
use denote.RattleType.{RattleType}
use denote.Param.Send.{IsSend, IsSync, sendable}
use Rattle.std.proofs.Crossing as std
use Rattle.vd_device.specs.declared.store.Store as store
use Rattle.vd_device.specs.declared.base.Base as base
use Rattle.vd_law.proofs.Sent as law
use Rattle.vd_log.proofs.Sent as log
use Rattle.vd_regions.proofs.Sent as regions
use Rattle.vd_keeper.proofs.Sent as keeper
use Rattle.vd_passes.proofs.Sent as passes
use Rattle.vd_replay.proofs.Sent as replay
use Rattle.vd_core.specs.contracts.state.Core as Core

pub core_send : (S B : RattleType) (s : store.Ghosts S.Denot) (b : base.Ghosts B.Denot) → IsSend S → IsSend B → IsSend (Core.the_row S B s b)
core_send S B s b send_store send_base = search (sendable, std.crosses, law.crosses, log.crosses, regions.crosses, passes.crosses, keeper.crosses, replay.crosses) depth 60 fits 20000

pub core_sync : (S B : RattleType) (s : store.Ghosts S.Denot) (b : base.Ghosts B.Denot) → IsSync S → IsSync B → IsSync (Core.the_row S B s b)
core_sync S B s b sync_store sync_base = search (sendable, std.crosses, law.crosses, log.crosses, regions.crosses, passes.crosses, keeper.crosses, replay.crosses) depth 60 fits 20000
