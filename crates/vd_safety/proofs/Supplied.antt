-- Where the side facts of a flush come from: what is known of a core before each step of a pass, and what it keeps of crashes.
use Rattle.std.proofs.Common.{◌≡◌, ◌⊎◌, inl, inr, ℕ, ◌+◌, ◌*◌, ◌/◌, ◌<◌, Bool, true, false, List, get_or, Option, Some, None, slice_get, sym, refl, ap, ◌∙◌, arith, subst}
use Rattle.std.proofs.lemmas.Bool.{or_cases}
use Rattle.std.proofs.lemmas.Nat.{div-mul-add}
use Rattle.std.proofs.lemmas.List.Folds.{Any-from_list_any}
use Rattle.std.proofs.lemmas.Option.{slice_get-get_or}
use Rattle.vd_law.specs.declared.entry.Sector.{Sector}
use Rattle.vd_law.specs.declared.entry.CallId.{CallId}
use Rattle.vd_law.specs.Entries.{Asked, Read, Write, Flush, Entry, Ask, past, nothing}
use Rattle.vd_law.specs.Histories.{HistoryState}
use Rattle.vd_bits.specs.Blocks.{Blocks, bits_in}
use Rattle.vd_format.specs.declared.header.Header.{Header}
use Rattle.vd_table.specs.Tables.{TableState}
use Rattle.vd_image.specs.Log.{At}
use Rattle.vd_image.proofs.NthWrites.{list_of-fold}
use Rattle.vd_image.proofs.AsksBefore.{known_ask}
use Rattle.vd_crash.specs.facts.Safe.{Opening}
use Rattle.vd_crash.specs.primitives.Primitives.{State}
use Rattle.vd_crash.specs.primitives.Keeping.{KeepsCrashSafety}
use Rattle.vd_crash.proofs.primitives.Using.{kept_local}
use Rattle.vd_keeper.specs.Keeping.{KeeperState}
use Rattle.vd_keeper.specs.Entries.{HasStorage, has_block, wanted_blocks}
use Rattle.vd_keeper.proofs.Rows.{get_or-either}
use Rattle.vd_keeper.proofs.Chunked.{length-bits_in, get_or-bits_in}
use Rattle.vd_keeper.proofs.Owed.{is-true, there}
use Rattle.vd_passes.specs.declared.shape.Shape.{Shape}
use Rattle.vd_passes.specs.declared.pass.Pass.{Pass}
use Rattle.vd_passes.specs.declared.pass.Phase.TheVariants.{Idle, Asked as HasAsked}
use Rattle.vd_passes.specs.Passes.{IsAsHistorySays, IsRequestOf, call_id}
use Rattle.vd_passes.specs.Standings.{standing}
use Rattle.vd_machine.specs.Attending.{KeeperAgrees}
use Rattle.vd_safety.specs.Mirrors.{core_state, bit_of, storage_given, IsOfHeader, HasSafeMirror}
use Rattle.vd_safety.proofs.Records.{by-header}
use Rattle.vd_safety.proofs.Surroundings.{Surroundings}
use Rattle.vd_safety.proofs.Stepping.{IsFlushing}

-- ---- storage

-- a chunk has a block that is set
block-of : (h : Header) (blocks : List Bool) (chunk : ℕ) → has_block h blocks chunk ≡ true → (b : ℕ) × (bit_of blocks b ≡ true) × (b / h.chunk ≡ chunk)
block-of h blocks chunk is =
    let set : Blocks = record { chunk = h.chunk; bits = blocks } in
    let row : List Bool = bits_in set chunk in
    let found = Any-from_list_any (λ (x : Bool). x) row is in
    let at : slice_get row found.0 ≡ Some true = slice_get-get_or row found.0 found.1 found.2 ∙ ap (λ (x : Bool). Some x) (found.3 ∙ found.4) in
    let bit : get_or row found.0 false ≡ true = is-true row found.0 at in
    let inside : found.0 < h.chunk = (let len = length-bits_in set chunk in let k = found.2 in omega arith) in
    (chunk * h.chunk + found.0, sym (get_or-bits_in set chunk found.0 inside) ∙ bit, div-mul-add chunk h.chunk found.0 inside)

-- what the laws keep of blocks
kept-fresh : (o : Opening) (s : State) → KeepsCrashSafety o s → (b : ℕ) → (s.memory.index.stale b ≡ true) ⊎ (s.memory.owed b ≡ true) → s.memory.fresh b ≡ true
unfolding KeepsCrashSafety
kept-fresh o s keeps b (inl stale) = (keeps.core.holds.blocks.stale_settled b stale).0
kept-fresh o s keeps b (inr owed) = keeps.core.holds.blocks.owed_local b owed

kept-within : (o : Opening) (s : State) → KeepsCrashSafety o s → (c p : ℕ) → s.memory.index.table c ≡ Some p → p < o.layout.storage
unfolding KeepsCrashSafety
kept-within o s keeps = keeps.core.holds.facts.storage_one_to_one.within

given-there : (place : Option (Option ℕ)) (p : ℕ) → storage_given place ≡ Some p → place ≡ Some (Some p)
given-there (Some (Some q)) p is = cc
given-there (Some None) p is = absurd cc
given-there None p is = absurd cc

module _ {h : Header} {o : Opening} {shape : Shape} {table : TableState} {fresh : List Bool} {k : KeeperState} {flusher : Option ℕ} {passes : List Pass} {history : HistoryState} {log : List Entry} where
  -- each chunk that a flush writes has storage
  pub storage-kept : IsOfHeader h o k → KeeperAgrees shape table fresh passes flusher k → HasSafeMirror o (core_state table fresh k flusher passes history) log → HasStorage table k
  storage-kept of attended was =
      let s : State = was.state in
      let mirrors = was.mirrors in
      record {
        size = attended.chunks;
        storage = attended.storage;
        each = λ chunk is.
            let found = block-of k.header (wanted_blocks k) chunk is in
            let b : ℕ = found.0 in
            let logged : (s.memory.index.stale b ≡ true) ⊎ (s.memory.owed b ≡ true) = elim (or_cases (bit_of k.stale b) (bit_of k.snapshot b) (sym (get_or-either k.stale k.snapshot b) ∙ found.1)) [
              | inl stale ↦ inl (mirrors.stale b ∙ stale)
              | inr snap ↦ inr (mirrors.owed b ∙ is-true k.owed b (attended.keeping.part b (there k.snapshot b snap)))
            ] in
            let local = kept_local o s b was.keeps (kept-fresh o s was.keeps b logged) in
            let p : ℕ = local.1.0 in
            let chunk_is : o.layout.chunk_of b ≡ chunk = by-header h o k of (λ x. x.layout.chunk_of b ≡ chunk) found.2 in
            let gives : s.memory.index.table chunk ≡ Some p = ap s.memory.index.table (sym chunk_is) ∙ local.1.1 in
            let below : p < k.header.storage = (let e = by-header h o k of (λ x. x.layout.storage ≡ k.header.storage) refl in let w = kept-within o s was.keeps chunk p gives in omega arith) in
            (p, below, given-there (slice_get table.chunks chunk) p (sym (mirrors.storage chunk) ∙ gives));
      }

  -- the side facts of a flush
  pub flushing-of : {base : List Sector} {last : ℕ} → Surroundings h o shape (core_state table fresh k flusher passes history) base last → HasSafeMirror o (core_state table fresh k flusher passes history) log → IsFlushing h o shape (core_state table fresh k flusher passes history) last
  flushing-of around was = record { header = around.header; attended = around.attended; storage = storage-kept around.header around.attended was; numbers = around.numbers }

-- ---- the ask of a flush

flush-request : (p : Pass) (r : Asked) → IsRequestOf p r → p.flush ≡ true → r ≡ Flush
flush-request p (Read first count) is flush = absurd (let e = is.3 in cc)
flush-request p (Write first content) is flush = absurd (let e = is.3 in cc)
flush-request p Flush is flush = refl

-- it stands in the history
pub flush-asked : {shape : Shape} {fresh : List Bool} {places : ℕ → Option ℕ} (entries : List Entry) (i : ℕ) (p : Pass) → IsAsHistorySays shape fresh places (standing entries i) p → p.phase ≡ HasAsked → p.flush ≡ true
    → (a : ℕ) × At entries a (Ask (call_id i p) Flush)
unfolding standing
flush-asked entries i p stands asked flush =
    let busy = stands.busy (λ idle. (let e = sym asked ∙ idle in other e)) in
    let request : busy.0 ≡ Flush = flush-request p busy.0 busy.2 flush in
    let found = known_ask (past entries) (record { pass = i; call = (standing entries i).call }) Flush (busy.1 ∙ ap (λ (r : Asked). Some r) request) in
    let call : record { pass = i; call = (standing entries i).call } ≡ call_id i p = ap (λ (c : ℕ). record { pass = i; call = c }) stands.call in
    (found.0, subst (λ (c : CallId). At entries found.0 (Ask c Flush)) call (subst (λ (es : List Entry). At es found.0 (Ask (record { pass = i; call = (standing entries i).call }) Flush)) (list_of-fold entries nothing) found.1.0))
  where
    other : HasAsked ≡ Idle → ⊥
    other e = absurd cc
