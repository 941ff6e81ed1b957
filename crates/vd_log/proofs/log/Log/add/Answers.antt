-- The entries before the new one stand for what they stood for, since the sectors that were there stay in front.
use Rattle.std.proofs.Common.{◌≡◌, List, [], ◌∷◌, ◌++◌, length, take, drop, ap, sym, ◌∙◌, subst, arith, length-append, take-append-drop}
use Rattle.std.specs.Prelude.{map}
use Rattle.std.specs.List.{All}
use Rattle.std.proofs.lemmas.List.Elements.{All-push}
use Rattle.vd_law.specs.declared.entry.Sector.{Sector}
use Rattle.vd_log.specs.declared.stored.Stored.{Stored}
use Rattle.vd_law.specs.Entries.{Entry, entry_of}
use Rattle.vd_law.specs.Logs.{LogState, IsShort}
use Rattle.vd_log.specs.StoredEntries.{entry_in, HasContentWithin}
use Rattle.vd_log.proofs.Storing.{entries-push, within-push}
use Rattle.vd_log.proofs.log.Log.add.Goals as goal

-- the sectors, where those that were there stand in front
behind : (xs sectors : List Sector) → take (length xs) sectors ≡ xs → sectors ≡ xs ++ drop (length xs) sectors
behind xs sectors earlier =
    sym (take-append-drop (length xs) sectors) ∙ ap (λ (front : List Sector). front ++ drop (length xs) sectors) earlier

-- the new entry among the old ones
all_within : (xs sectors : List Sector) (es entries : List Stored) (e : Stored) → take (length xs) sectors ≡ xs → entries ≡ es ++ e ∷ [] → All (HasContentWithin (length xs)) es → HasContentWithin (length sectors) e → All (HasContentWithin (length sectors)) entries
all_within xs sectors es entries e earlier entries_are all last =
    subst (All (HasContentWithin (length sectors))) (sym entries_are)
    (within-push (length xs) (length sectors) es e (omega (arith, ap length (behind xs sectors earlier), length-append xs (drop (length xs) sectors))) all last)

stand_for : (xs sectors : List Sector) (es entries : List Stored) (e : Stored) (entry : Entry) → take (length xs) sectors ≡ xs → entries ≡ es ++ e ∷ [] → All (HasContentWithin (length xs)) es → entry_in sectors e ≡ entry → map (entry_in sectors) entries ≡ map (entry_in xs) es ++ entry ∷ []
stand_for xs sectors es entries e entry earlier entries_are all is_entry =
    let ys = drop (length xs) sectors in
    let sectors_are = behind xs sectors earlier in
    ap (map (entry_in sectors)) entries_are
    ∙ ap (λ (all_sectors : List Sector). map (entry_in all_sectors) (es ++ e ∷ [])) sectors_are
    ∙ entries-push xs ys es e all
    ∙ ap (λ (last : Entry). map (entry_in xs) es ++ last ∷ []) (ap (λ (all_sectors : List Sector). entry_in all_sectors e) (sym sectors_are) ∙ is_entry)

pub invariant_of-self : goal.invariant_of-self
invariant_of-self c = record {
  events = omega (
    arith,
    ap length c.append.ensures.entries,
    length-append c.self.inside.stored.items (c.stored_of-stored.result ∷ []),
    ap (λ (k : LogState). k.left.events) c.self.view_is,
    c.requires.events,
  );
  sectors = omega (arith, ap length c.content_of.ensures, c.stored_of-stored.ensures.count);
  told = omega (arith, ap length c.content_of.ensures, ap (λ (k : LogState). k.left.sectors) c.self.view_is, c.requires.sectors);
  shared = c.stored_of-stored.ensures.shared;
  events_reserved = omega arith;
  sectors_reserved = omega arith;
  within = all_within _ _ _ _ _ c.stored_of-stored.ensures.earlier c.append.ensures.entries c.self.invariant.within c.stored_of-stored.ensures.within;
  short = subst (All IsShort) (sym (stand_for _ _ _ _ _ _ c.stored_of-stored.ensures.earlier c.append.ensures.entries c.self.invariant.within c.stored_of-stored.ensures.entry)) (All-push IsShort _ (entry_of c.args.event) c.self.invariant.short c.requires.short);
}

pub returns-clause-entries : goal.returns-clause-entries
returns-clause-entries c =
    stand_for _ _ _ _ _ _ c.stored_of-stored.ensures.earlier c.append.ensures.entries c.self.invariant.within c.stored_of-stored.ensures.entry
    ∙ ap (λ (k : LogState). k.entries ++ entry_of c.args.event ∷ []) c.self.view_is
