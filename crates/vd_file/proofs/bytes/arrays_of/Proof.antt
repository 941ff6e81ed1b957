-- `arrays_of` shares the bytes of the sectors, each at the place of its sector.
use Rattle.std.proofs.Common.{◌≡◌, ℕ, ◌+◌, ◌*◌, ◌<◌, ◌^◌, List, [], ◌∷◌, length, map, refl, sym, subst, add-zero}
use Rattle.std.proofs.lemmas.List.{length-map}
use Rattle.std.proofs.raw_atomic.Walks.{proved}
use seplogic.Ra.Ura.{Ura}
use base.Logic.{ent}
use base.Fml.{Lft, flft, ftrue}
use mir.Syntax.{named}
use mir.Val.{Val}
use types.Logic.{Logic, sem}
use contract.Running.{tables}
use types.Kit.{‵, ◌⊛◌, at_ret, ◌$◌, ◌∵◌, !, qed, move, keep, use1, drop, split, rewrite, fsplit, fjoin, feq_i, flt_i, suffices, frame, done}
use types.Part.{whole, sub, agg}
use types.Run.{stop, fld, hop, from, addr, of_opd, and_then, no_more, first, blocks, exec, returns, enter}
use types.ByLocal.{alloc_all, pass_all, free_all, look_at, look_in_at, get, get_in, sets, sets_last, env}
use denote.Array.{Array}
use denote.Builtin.{u8}
use denote.Exit.{yes}
use denote.Memory.{each_shared, shared_of}
use denote.Opens.{unhide, hide}
use denote.RattleType.{RattleType}
use denote.Signature.{plain, shr_slice_of}
use denote.Slice.{ShrSlice, slice_val, shr_slice_vals, shr_slice_Tells}
use denote.Steps.{nothing}
use denote.Triple.Walked.{says, Stays, stay_dropped, walk_of, ends_at, Goes-dropped}
use Rattle.vd_law.specs.declared.entry.Sector.{Sector}
use Rattle.vd_law.specs.contracts.entry.Sector.{the_row as S}
use Rattle.vd_file.specs.contracts.bytes.arrays_of as f
use Rattle.vd_file.proofs.bytes.arrays_of.Statement.{statement}
use Rattle.vd_file.proofs.bytes.arrays_of.Code as code

abbrev A : RattleType
A = Array u8 512

abbrev bytes_of : List Sector → List (List ℕ)
bytes_of sectors = map (λ sector. sector.bytes) sectors

module _ {M : Type 1} {𝓤 : Ura M} (𝓛 : Logic 𝓤) (κ : Lft) (b : ℕ) where
  by_bytes : (xs : List Sector) (o : ℕ) → ent 𝓤 (sem 𝓛 (each_shared xs (shared_of S) 512 b o κ)) (sem 𝓛 (each_shared (bytes_of xs) (shared_of A) 512 b o κ))
  by_bytes [] o = qed 𝓛 (‵ (each_shared [] (shared_of S) 512 b o κ) ∷ []) ∵ done !
  by_bytes (x ∷ xs) o =
      qed 𝓛 (‵ (each_shared (x ∷ xs) (shared_of S) 512 b o κ) ∷ []) ∵ fsplit ! $ fsplit ! $ fsplit ! $
      rewrite ! 0 (λ (p : ℕ). ‵ (shared_of A x.bytes b p κ)) (add-zero o) refl $ keep ! (3 ∷ 0 ∷ []) $
      use1 𝓛 (‵ (each_shared (bytes_of xs) (shared_of A) 512 b (o + 512) κ)) (by_bytes xs (o + 512)) $ move ! (1 ∷ 0 ∷ []) $ fjoin ! $ done !

abbrev stayed : Stays f.ended.signature.params f.ended.kept
stayed = (stay_dropped (shr_slice_of (0 ∷ []) tt (plain (λ _. S))) yes, tt)

pub arrays_of_spec : {M : Type 1} → statement M
arrays_of_spec 𝓤 𝓛 𝓜 𝓡 wired =
    let c = f.clauses 𝓛 𝓜.mem 𝓡.returns in let W = walk_of 𝓛 f.ended stayed c in let 𝓣 = tables 𝓤 𝓛.H 𝓜 𝓡 𝓡.env in
    proved 𝓛 f.ended stayed c 𝓜 𝓡 (Goes-dropped 𝓛 1 (shr_slice_of (0 ∷ []) tt (plain (λ _. S))) yes (λ κs x w. refl), tt)
    f.Key.name code.function (code.unfolded 𝓤 𝓛.H 𝓜 𝓡 wired)
    (λ κs. (shr_slice_vals, tt)) (λ κs. (shr_slice_Tells (named 0) κs.0 S, tt)) (λ κs qs bounds a _ are.
    let b = a.0.ref_ptr.0 in let o = a.0.ref_ptr.1 in let xs = a.0.now in let ys = bytes_of xs in let rm = are.0.0.1 in
    let many : length ys ≡ length xs = length-map xs (λ (sector : Sector). sector.bytes) in
    let y : W.Ghost = ((κs, qs, bounds, a, (shr_slice_vals a.0, tt)), tt) in
    qed 𝓛 (((‵ (flft κs.0 qs.0) ⊛ ‵ ftrue) ⊛ ‵ ((ShrSlice (named 0) κs.0 S).own_val a.0 (shr_slice_vals a.0)) ⊛ ‵ ftrue) ∷ ‵ ftrue ∷ []) ∵
    split ! $ move ! (1 ∷ []) $ split ! $ keep ! (2 ∷ 0 ∷ []) $
    enter ! _ _ _ _ _ $ alloc_all ! (λ l. pass_all ! refl ((tt, (tt, (record { fits = rm.0 }, tt))), tt) $
    sets ! (of_opd ! (get_in ! (fld ! refl (stop !)) (sub ! 1 refl (whole !)))) refl (tt, record { fits = rm.0 }) $
    first ! $ blocks ! $
    sets ! (addr ! (from ! (fld ! refl (hop ! (look_in_at ! 1 (sub ! 0 refl (whole !))) (stop !))))) refl (tt, tt) $
    sets_last ! (agg ! (and_then ! (get ! refl) (and_then ! (get ! refl) (no_more !)))) refl (tt, (tt, (record { fits = rm.0 }, tt))) $
    exec ! 𝓣.C 𝓣.Λ (env code.Mir.locals l) code.Mir.t-3 (at_ret _ (W.post y)) $
    sets ! (of_opd ! (get ! refl)) refl (tt, (tt, (record { fits = rm.0 }, tt))) $
    move ! (1 ∷ []) $ fsplit ! $ drop ! $ unhide ! $
    use1 𝓛 (‵ (each_shared ys (shared_of A) 512 b o κs.0)) (by_bytes 𝓛 κs.0 b xs o) $ hide ! $
    returns ! (look_at ! 0 refl) $ free_all ! refl $ keep ! (1 ∷ 0 ∷ []) $
    suffices ! _ (ends_at 𝓛 f.ended stayed c y (slice_val (b, o) (length xs)) (record { ref_ptr = (b, o); now = ys }) (tt, tt) (tt, tt)) $ says ! refl $
    frame ! $ nothing ! $ nothing ! $ fjoin ! $ frame ! $
    flt_i ! (length ys * 512) (2 ^ 63) (subst (λ (j : ℕ). j * 512 < 2 ^ 63) (sym many) rm.1) $ flt_i ! (length ys) (2 ^ 64) (subst (λ (j : ℕ). j < 2 ^ 64) (sym many) rm.0) $ fjoin ! $
    feq_i ! (List Val) (slice_val (b, o) (length xs) ∷ []) (slice_val (b, o) (length ys) ∷ []) (λ i. slice_val (b, o) (sym many i) ∷ []) $ fjoin ! $ fjoin ! $ done !))
