-- A store in memory before its first call.
use Rattle.std.proofs.Common.{◌≡◌, ℕ, List, [], length, ap, sym, ◌∙◌, subst, arith}
use Rattle.std.specs.Prelude.{slice_get, Some}
use Rattle.std.specs.Option.{option_to_list}
use Rattle.std.specs.List.{Contains}
use Rattle.std.proofs.lemmas.List.Elements.{All-nil, Contains-push}
use Rattle.vd_law.specs.declared.entry.Sector.{Sector}
use Rattle.vd_device.specs.Disks.{IsOneOf}
use Rattle.vd_mem.specs.StoreState.{MemStoreState}
use Rattle.vd_mem.specs.Sound.{IsSoundMemStore}

-- nothing has happened yet
pub sound-first : (m : MemStoreState) → m.held ≡ m.start → m.log.entries ≡ [] → m.last ≡ 0 → m.flying ≡ 0 → IsSoundMemStore m
sound-first m same none first grounded = record {
  size = ap length same;
  short = omega (arith, ap length none);
  told = λ runs. record {
    numbers = omega (arith, first);
    honest = λ s v at. rw none (there s v (ap (λ (h : List Sector). slice_get h s) (sym same) ∙ at));
    order = rw none (record { alone = tt; inside = tt; shown = tt });
  };
  flight = (
    [],
    record {
      many = grounded;
      within = tt;
      calls = λ runs. rw none (record { each = tt; distinct = tt; writes = λ s. All-nil (IsOneOf [] s) });
    },
  );
}
  where
    there : (s : ℕ) (v : Sector) → slice_get m.start s ≡ Some v → Contains (option_to_list (slice_get m.start s)) v
    there s v at = subst (λ o. Contains (option_to_list o) v) (sym at) (Contains-push [] v)
