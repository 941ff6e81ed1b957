-- The seats of the passes are cut from one seat, and joined again.
use Rattle.std.proofs.Common.{◌≡◌, ◌≢◌, ℕ, suc, zero, ◌+◌, ◌-◌, ◌<◌, false, List, [], ◌∷◌, ◌++◌, length, map, take, drop, sym, ap, ◌∙◌, subst, arith, Option, append_assoc}
use mathlib.Core.List.{map-append}
use Rattle.std.specs.List.{All, range_with_len}
use Rattle.std.proofs.lemmas.List.{length-map}
use Rattle.std.proofs.lemmas.List.FromFn.{length-range_with_len, map-range_with_len_more}
use Rattle.std.proofs.lemmas.List.Elements.{All-nil, All-cons}
use Rattle.atomic_table.specs.Table.{State, Me, Splits, Joins}
use Rattle.vd_turn.specs.declared.board.Note.{Note}
use Rattle.vd_turn.specs.declared.board.View.{View}
use Rattle.vd_turn.specs.declared.keeping.Kept.{Ghosts}
use Rattle.vd_turn.specs.Lists.{IsLaterFor, size}
use Rattle.vd_turn.specs.Board.{note, view_of, notes_from, knowing, HasOneValue}
use Rattle.vd_turn.proofs.Steps.{parts_pass, joins_pass}

abbrev M : Type 0 → Type 0
M V = Me (Option V) (View V)

pub counted : {T : Type 0} (f : ℕ → T) (items : List T) (n : ℕ) → items ≡ map f (range_with_len 0 n) → length items ≡ n
counted f items n made = ap length made ∙ (length-map (range_with_len 0 n) f ∙ length-range_with_len 0 n)

pub passes_more : {T : Type 0} (f : ℕ → T) (old new : List T) (t : T) (n : ℕ) → new ≡ old ++ t ∷ [] → old ≡ map f (range_with_len 0 n) → t ≡ f n → new ≡ map f (range_with_len 0 (n + 1))
passes_more f old new t n e made same = e ∙ ((λ i. made i ++ same i ∷ []) ∙ sym (map-range_with_len_more f 0 n n (omega arith)))

module _ {V : Type 0} where
  above : (count start low : ℕ) (x : V) → low < start → All (λ (n : Note V). n.pass ≢ low) (notes_from start count x)
  above zero start low x h = All-nil (λ (n : Note V). n.pass ≢ low)
  above (suc count) start low x h = let next : low < suc start = omega arith in
      All-cons (λ (n : Note V). n.pass ≢ low) (note start x) (notes_from (suc start) count x) (λ e. omega arith) (above count (suc start) low x next)

  -- what is left of the notes
  pub cut_rest : (p e c : ℕ) (x : V) (m m' : M V) → m ≡ (view_of (notes_from p c x) false [], []) → c ≡ e - p → p < e → m' ≡ (view_of (drop 1 m.0.notes) m.0.holds m.0.found, m.1)
      → m' ≡ (view_of (notes_from (p + 1) (e - (p + 1)) x) false [], [])
  cut_rest p e zero x m m' is left low after = absurd (omega arith)
  cut_rest p e (suc c) x m m' is left low after =
      let q : suc p ≡ p + 1 = omega arith in let r : c ≡ e - (p + 1) = omega arith in
      after ∙ (ap (λ (z : M V). let k : M V = (view_of (drop 1 z.0.notes) z.0.holds z.0.found, z.1) in k) is ∙ (λ i. (view_of (notes_from (q i) (r i) x) false [], [])))

  -- the note that was cut off
  pub cut_off : (p c : ℕ) (x : V) (m m' : M V) → m ≡ (view_of (notes_from p c x) false [], []) → 0 < c → m' ≡ (view_of (take 1 m.0.notes) false [], []) → m' ≡ knowing p x false []
  cut_off p zero x m m' is some after = absurd (omega arith)
  cut_off p (suc c) x m m' is some after = after ∙ ap (λ (z : M V). let k : M V = (view_of (take 1 z.0.notes) false [], []) in k) is

  -- a seat that has taken in the note of one pass
  pub joined : (p : ℕ) (x : V) (fs : List ℕ) (m w m' : M V) → m ≡ (view_of m.0.notes false m.0.found, []) → w ≡ knowing p x false fs → m' ≡ (view_of (w.0.notes ++ m.0.notes) m.0.holds m.0.found, m.1)
      → m' ≡ (view_of (note p x ∷ m.0.notes) false m.0.found, [])
  joined p x fs m w m' is is' after = after ∙ (λ i. (view_of ((is' i).0.notes ++ m.0.notes) (is i).0.holds m.0.found, (is i).1))

  pub still_rests : (m : M V) (ns : List (Note V)) (fs : List ℕ) → m ≡ (view_of ns false fs, []) → m ≡ (view_of m.0.notes false m.0.found, [])
  still_rests m ns fs is = is ∙ ap (λ (z : M V). let k : M V = (view_of z.0.notes false z.0.found, []) in k) (sym is)

  pub all_but_last : {T : Type 0} (f : T → Note V) (items rest : List T) (t : T) (ns total : List (Note V)) → items ≡ rest ++ t ∷ [] → map f items ++ ns ≡ total → map f rest ++ (f t ∷ ns) ≡ total
  all_but_last f items rest t ns total e h = sym (append_assoc (map f rest) (f t ∷ []) ns) ∙ (ap (λ l. l ++ ns) (sym (ap (map f) e ∙ map-append f rest (t ∷ []))) ∙ h)

module _ {V E P F : Type 0} (g : Ghosts V E P F) (passes : ℕ) where
  abbrev Rule : State (Option V) (View V) → Type 0
  Rule = HasOneValue (IsLaterFor g) (size g) passes

  cuts : (id p c : ℕ) (x : V) → 0 < c → (let v : View V = view_of (notes_from p c x) false [] in Splits Rule id v (view_of (drop 1 v.notes) v.holds v.found) (view_of (take 1 v.notes) false []))
  cuts id p zero x some = absurd (omega arith)
  cuts id p (suc c) x some = let low : p < suc p = omega arith in parts_pass (IsLaterFor g) (size g) passes id (note p x) (notes_from (suc p) c x) [] (above c (suc p) p x low)

  pub may_cut : (id p c : ℕ) (x : V) (m : Me (Option V) (View V)) → m ≡ (view_of (notes_from p c x) false [], []) → 0 < c → Splits Rule id m.0 (view_of (drop 1 m.0.notes) m.0.holds m.0.found) (view_of (take 1 m.0.notes) false [])
  may_cut id p c x m is some = subst (λ (z : Me (Option V) (View V)). Splits Rule id z.0 (view_of (drop 1 z.0.notes) z.0.holds z.0.found) (view_of (take 1 z.0.notes) false [])) (sym is) (cuts id p c x some)

  pub may_join : (id other : ℕ) (ns ms : List (Note V)) (fs gs : List ℕ) (m w : Me (Option V) (View V)) → m ≡ (view_of ns false fs, []) → w ≡ (view_of ms false gs, [])
      → Joins Rule id m.0 other w.0 (view_of (w.0.notes ++ m.0.notes) m.0.holds m.0.found) (view_of [] false [])
  may_join id other ns ms fs gs m w is is' = subst (λ (z : Me (Option V) (View V) × Me (Option V) (View V)). Joins Rule id z.0.0 other z.1.0 (view_of (z.1.0.notes ++ z.0.0.notes) z.0.0.holds z.0.0.found) (view_of [] false []))
      (λ i. (sym is i, sym is' i)) (joins_pass (IsLaterFor g) (size g) passes id other ns ms fs gs)
