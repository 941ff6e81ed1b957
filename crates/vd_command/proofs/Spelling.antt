-- The function that reads a command finds exactly the command that the words spell.
use Rattle.std.proofs.Common.{ℕ, ◌≡◌, ◌<◌, ◌^◌, ◌↔◌, ◌&&◌, List, [], ◌∷◌, Option, Some, None, Bool, true, false, cond, refl, ap, subst, ◌∙◌, arith}
use Rattle.std.specs.Prelude.{codes, nat_le}
use Rattle.std.specs.Fmt.{decimal}
use Rattle.std.specs.Str.{bytes_eq}
use Rattle.std.proofs.lemmas.Bool.{and_parts, leb-true, le-leb}
use Rattle.std.proofs.lemmas.Option.{option_and_then_some}
use Rattle.std.proofs.lemmas.Slice.Eq.{bytes_eq-Decides}
use Rattle.vd_decimal.specs.Numbers.{number_in}
use Rattle.vd_decimal.proofs.Spelling.{number_in-exact, spells-below, decimal-spells}
use Rattle.vd_format.specs.declared.header.Header.{Header}
use Rattle.vd_format.specs.Headers.{IsValid}
use Rattle.vd_format.proofs.Rules.{block_within, chunk_within, size_within, storage_within}
use Rattle.vd_command.specs.declared.command.Command.{Command}
use Rattle.vd_command.specs.declared.command.Command.TheVariants.{Make, Show, Run, Retrack, Upgrade, Trace, Drill}
use Rattle.vd_command.specs.Words.{switch, made_header, IsInBounds, HasAllowedNumbers, Spells}
use Rattle.vd_command.specs.Reading.{number_within, number_between, most_u32, switch_of, command_from, make_command, make_of, show_of, run_of, retrack_of, upgrade_of, trace_of, drill_of, command_of}
use Rattle.vd_command.proofs.Making.{test-valid, valid-test}

-- what is found, and what follows from it
peel : {T : Type 0} (found : Option T) (next : T → Option Command) (c : Command) (P : Type 0) → command_from found next ≡ Some c → ((x : T) → found ≡ Some x → next x ≡ Some c → P) → P
peel found next c P e goes = option_and_then_some next found c e goes

-- one of two answers
choose : {T : Type 0} (b : Bool) (x y : Option T) (c : T) (P : Type 0) → cond b x y ≡ Some c → (b ≡ true → x ≡ Some c → P) → (y ≡ Some c → P) → P
choose true x y c P e first second = first refl e
choose false x y c P e first second = second e

same-command : (words : List (List ℕ)) (c d : Command) → Some c ≡ Some d → Spells words c → Spells words d
same-command words c d e s = let same : c ≡ d = cc in subst (Spells words) same s

-- ---- numbers

-- the word is printed for a number of at most ten digits
record IsNumber (word : List ℕ) (n : ℕ) : Type 0 where
  printed : word ≡ decimal n
  short : n < 10 ^ 10

-- and for one that lies between these
record IsNumberWithin (least most : ℕ) (word : List ℕ) (n : ℕ) : Type 0 where
  printed : word ≡ decimal n
  between : IsInBounds least most n

number-found : (word : List ℕ) (n : ℕ) → number_in 10 word ≡ Some n → IsNumber word n
number-found word n e = let s = (number_in-exact 10 word n).0 e in record { printed = s.printed; short = spells-below 10 word n s }

found-number : (n : ℕ) → n < 10 ^ 10 → number_in 10 (decimal n) ≡ Some n
found-number n short = (number_in-exact 10 (decimal n) n).1 (decimal-spells 10 n (omega arith) short (omega arith))

seed-found : (word : List ℕ) (n : ℕ) → number_in 20 word ≡ Some n → (word ≡ decimal n) × (n < 2 ^ 64)
seed-found word n e = let s = (number_in-exact 20 word n).0 e in (s.printed, s.fits)

found-seed : (n : ℕ) → n < 2 ^ 64 → number_in 20 (decimal n) ≡ Some n
found-seed n fits = (number_in-exact 20 (decimal n) n).1 (decimal-spells 20 n (omega arith) (omega arith) fits)

within-found : (least most : ℕ) (o : Option ℕ) (n : ℕ) → number_within least most o ≡ Some n → (o ≡ Some n) × IsInBounds least most n
within-found least most None n e = absurd cc
within-found least most (Some m) n e =
    choose (nat_le least m && nat_le m most) (Some m) None n _ e
    (λ inside same.
    let both = and_parts (nat_le least m) (nat_le m most) inside in
    let is : m ≡ n = cc in
    (same, subst (IsInBounds least most) is (leb-true least m both.0, leb-true m most both.1)))
    (λ none. absurd cc)

number_of-found : (least most : ℕ) (word : List ℕ) (n : ℕ) → number_between least most word ≡ Some n → IsNumberWithin least most word n
number_of-found least most word n e =
    let found = within-found least most (number_in 10 word) n e in
    record { printed = ((number_in-exact 10 word n).0 found.0).printed; between = found.1 }

found-number_of : (least most n : ℕ) → most < 10 ^ 10 → IsInBounds least most n → number_between least most (decimal n) ≡ Some n
found-number_of least most n short (low, high) =
    rw (found-number n (omega arith)) (rw (le-leb least n low, le-leb n most high) refl)

switch-found : (word : List ℕ) (b : Bool) → switch_of word ≡ Some b → word ≡ switch b
switch-found word b e =
    choose _ _ _ b _ e
    (λ on same. let is : true ≡ b = cc in (bytes_eq-Decides word (codes "on")).0 on ∙ ap switch is)
    (λ other. choose _ _ _ b _ other
    (λ off same. let is : false ≡ b = cc in (bytes_eq-Decides word (codes "off")).0 off ∙ ap switch is)
    (λ none. absurd cc))

found-switch : (b : Bool) → switch_of (switch b) ≡ Some b
found-switch true = refl
found-switch false = refl

-- ---- each command's words are read

making-valid : (h : Header) → IsValid h → make_command h ≡ Some (Make h.size h.block h.chunk h.storage h.slots)
unfolding make_command
making-valid h valid = rw (valid-test h valid) refl

spelled-make : (size block chunk storage slots : ℕ) (image base : List ℕ) → HasAllowedNumbers (Make size block chunk storage slots)
    → make_of (image ∷ base ∷ decimal size ∷ decimal block ∷ decimal chunk ∷ decimal storage ∷ decimal slots ∷ []) ≡ Some (Make size block chunk storage slots)
spelled-make size block chunk storage slots image base valid =
    let h : Header = made_header size block chunk storage slots in
    let e1 = found-number size (omega (arith, size_within h valid)) in
    let e2 = found-number_of 0 most_u32 block (omega arith) (omega arith, omega (arith, (block_within h valid).1)) in
    let e3 = found-number_of 0 most_u32 chunk (omega arith) (omega arith, omega (arith, (chunk_within h valid).1)) in
    let e4 = found-number_of 0 most_u32 storage (omega arith) (omega arith, omega (arith, storage_within h valid)) in
    let e5 = found-number_of 0 most_u32 slots (omega arith) (omega arith, omega (arith, valid.slots)) in
    rw (e1, e2, e3, e4, e5) (making-valid h valid)

spelled-read : (words : List (List ℕ)) (c : Command) → Spells words c → command_of words ≡ Some c
spelled-read words (Make size block chunk storage slots) s = rw s.words_are (spelled-make size block chunk storage slots s.image s.base s.allowed)
spelled-read words (Show first count) s =
    rw s.words_are (rw (found-number first s.allowed.0, found-number_of 1 2048 count (omega arith) s.allowed.1) refl)
spelled-read words (Run guests workers copying limit) s =
    let (guests_are, workers_are, limit_is) = s.allowed in
    rw s.words_are (rw (
      found-number_of 1 32 guests (omega arith) guests_are,
      found-number_of 0 8 workers (omega arith) (omega arith, workers_are),
      found-switch copying,
      found-number_of 0 most_u32 limit (omega arith) (omega arith, omega arith),
    ) refl)
spelled-read words (Retrack new) s = rw s.words_are (rw (found-number new s.allowed) refl)
spelled-read words Upgrade s = rw s.words_are refl
spelled-read words (Trace number guests requests size) s =
    let (number_is, guests_are, requests_are, size_is) = s.allowed in
    rw s.words_are (rw (
      found-seed number number_is,
      found-number_of 1 32 guests (omega arith) guests_are,
      found-number_of 0 4000 requests (omega arith) (omega arith, requests_are),
      found-number_of 64 16777216 size (omega arith) size_is,
    ) refl)
spelled-read words (Drill number guests requests stop) s =
    let (number_is, guests_are, requests_are, stop_is) = s.allowed in
    rw s.words_are (rw (
      found-seed number number_is,
      found-number_of 1 32 guests (omega arith) guests_are,
      found-number_of 0 1000 requests (omega arith) (omega arith, requests_are),
      found-number_of 0 most_u32 stop (omega arith) (omega arith, omega arith),
    ) refl)

-- ---- what is read is spelled

making-found : (h : Header) (c : Command) → h.version ≡ 2 → make_command h ≡ Some c → IsValid h × (Some (Make h.size h.block h.chunk h.storage h.slots) ≡ Some c)
unfolding make_command
making-found h c two e = choose _ _ _ c _ e (λ right same. (test-valid h two right, same)) (λ none. absurd cc)

show-found : (arguments : List (List ℕ)) (c : Command) → show_of arguments ≡ Some c → Spells (codes "show" ∷ arguments) c
show-found (image ∷ base ∷ first ∷ count ∷ []) c e =
    peel _ _ c _ e (λ f at_f e. peel _ _ c _ e (λ k at_k e.
    let nf = number-found first f at_f in
    let nk = number_of-found 1 2048 count k at_k in
    same-command _ (Show f k) c e (record { allowed = (nf.short, nk.between); image = image; base = base; words_are = rw (nf.printed, nk.printed) refl })))
show-found other c e = absurd cc

make-found : (arguments : List (List ℕ)) (c : Command) → make_of arguments ≡ Some c → Spells (codes "make" ∷ arguments) c
make-found (image ∷ base ∷ size ∷ block ∷ chunk ∷ storage ∷ slots ∷ []) c e =
    peel _ _ c _ e (λ n1 at1 e. peel _ _ c _ e (λ n2 at2 e. peel _ _ c _ e (λ n3 at3 e. peel _ _ c _ e (λ n4 at4 e. peel _ _ c _ e (λ n5 at5 e.
    let size_is = number-found size n1 at1 in
    let block_is = number_of-found 0 most_u32 block n2 at2 in
    let chunk_is = number_of-found 0 most_u32 chunk n3 at3 in
    let storage_is = number_of-found 0 most_u32 storage n4 at4 in
    let slots_are = number_of-found 0 most_u32 slots n5 at5 in
    let found = making-found (made_header n1 n2 n3 n4 n5) c refl e in
    same-command _ (Make n1 n2 n3 n4 n5) c found.1 (record {
      allowed = found.0;
      image = image;
      base = base;
      words_are = rw (size_is.printed, block_is.printed, chunk_is.printed, storage_is.printed, slots_are.printed) refl;
    }))))))
make-found other c e = absurd cc

run-found : (arguments : List (List ℕ)) (c : Command) → run_of arguments ≡ Some c → Spells (codes "run" ∷ arguments) c
run-found (image ∷ base ∷ guests ∷ workers ∷ copying ∷ limit ∷ []) c e =
    peel _ _ c _ e (λ n1 at1 e. peel _ _ c _ e (λ n2 at2 e. peel _ _ c _ e (λ b at3 e. peel _ _ c _ e (λ n4 at4 e.
    let guests_are = number_of-found 1 32 guests n1 at1 in
    let workers_are = number_of-found 0 8 workers n2 at2 in
    let copying_is = switch-found copying b at3 in
    let limit_is = number_of-found 0 most_u32 limit n4 at4 in
    let below : n4 < 2 ^ 32 = omega (arith, limit_is.between.1) in
    same-command _ (Run n1 n2 b n4) c e (record {
      allowed = (guests_are.between, workers_are.between.1, below);
      image = image;
      base = base;
      words_are = rw (guests_are.printed, workers_are.printed, copying_is, limit_is.printed) refl;
    })))))
run-found other c e = absurd cc

retrack-found : (arguments : List (List ℕ)) (c : Command) → retrack_of arguments ≡ Some c → Spells (codes "retrack" ∷ arguments) c
retrack-found (image ∷ base ∷ new ∷ []) c e =
    peel _ _ c _ e (λ n at e.
    let new_is = number-found new n at in
    same-command _ (Retrack n) c e (record { allowed = new_is.short; image = image; base = base; words_are = rw new_is.printed refl }))
retrack-found other c e = absurd cc

upgrade-found : (arguments : List (List ℕ)) (c : Command) → upgrade_of arguments ≡ Some c → Spells (codes "upgrade" ∷ arguments) c
upgrade-found (image ∷ base ∷ []) c e = same-command _ Upgrade c e (record { allowed = tt; image = image; base = base; words_are = refl })
upgrade-found other c e = absurd cc

trace-found : (arguments : List (List ℕ)) (c : Command) → trace_of arguments ≡ Some c → Spells (codes "trace" ∷ arguments) c
trace-found (number ∷ guests ∷ requests ∷ size ∷ []) c e =
    peel _ _ c _ e (λ n1 at1 e. peel _ _ c _ e (λ n2 at2 e. peel _ _ c _ e (λ n3 at3 e. peel _ _ c _ e (λ n4 at4 e.
    let number_is = seed-found number n1 at1 in
    let guests_are = number_of-found 1 32 guests n2 at2 in
    let requests_are = number_of-found 0 4000 requests n3 at3 in
    let size_is = number_of-found 64 16777216 size n4 at4 in
    same-command _ (Trace n1 n2 n3 n4) c e (record {
      allowed = (number_is.1, guests_are.between, requests_are.between.1, size_is.between);
      image = [];
      base = [];
      words_are = rw (number_is.0, guests_are.printed, requests_are.printed, size_is.printed) refl;
    })))))
trace-found other c e = absurd cc

drill-found : (arguments : List (List ℕ)) (c : Command) → drill_of arguments ≡ Some c → Spells (codes "drill" ∷ arguments) c
drill-found (number ∷ guests ∷ requests ∷ stop ∷ []) c e =
    peel _ _ c _ e (λ n1 at1 e. peel _ _ c _ e (λ n2 at2 e. peel _ _ c _ e (λ n3 at3 e. peel _ _ c _ e (λ n4 at4 e.
    let number_is = seed-found number n1 at1 in
    let guests_are = number_of-found 1 32 guests n2 at2 in
    let requests_are = number_of-found 0 1000 requests n3 at3 in
    let stop_is = number_of-found 0 most_u32 stop n4 at4 in
    let below : n4 < 2 ^ 32 = omega (arith, stop_is.between.1) in
    same-command _ (Drill n1 n2 n3 n4) c e (record {
      allowed = (number_is.1, guests_are.between, requests_are.between.1, below);
      image = [];
      base = [];
      words_are = rw (number_is.0, guests_are.printed, requests_are.printed, stop_is.printed) refl;
    })))))
drill-found other c e = absurd cc

-- the first word is this one, and what follows is read
named : (name text : List ℕ) (arguments : List (List ℕ)) (reader : List (List ℕ) → Option Command) (c : Command)
    → ((arguments : List (List ℕ)) (c : Command) → reader arguments ≡ Some c → Spells (text ∷ arguments) c)
    → bytes_eq name text ≡ true → reader arguments ≡ Some c → Spells (name ∷ arguments) c
named name text arguments reader c found is e =
    let same : name ≡ text = (bytes_eq-Decides name text).0 is in
    rw same (found arguments c e)

read-spelled : (words : List (List ℕ)) (c : Command) → command_of words ≡ Some c → Spells words c
read-spelled [] c e = absurd cc
read-spelled (name ∷ arguments) c e =
    choose _ _ _ c _ e (named name (codes "make") arguments make_of c make-found) (λ e.
    choose _ _ _ c _ e (named name (codes "show") arguments show_of c show-found) (λ e.
    choose _ _ _ c _ e (named name (codes "run") arguments run_of c run-found) (λ e.
    choose _ _ _ c _ e (named name (codes "retrack") arguments retrack_of c retrack-found) (λ e.
    choose _ _ _ c _ e (named name (codes "upgrade") arguments upgrade_of c upgrade-found) (λ e.
    choose _ _ _ c _ e (named name (codes "trace") arguments trace_of c trace-found) (λ e.
    choose _ _ _ c _ e (named name (codes "drill") arguments drill_of c drill-found) (λ none. absurd cc)))))))

-- a command is read exactly where the words spell it
pub command_of-exact : (words : List (List ℕ)) (c : Command) → (command_of words ≡ Some c) ↔ Spells words c
command_of-exact words c = (read-spelled words c, spelled-read words c)

-- what was read of a word and the words after it
pub exact-read : (words : List (List ℕ)) (name : List ℕ) (arguments : List (List ℕ)) (o : Option Command) → o ≡ command_of (name ∷ arguments) → words ≡ name ∷ arguments → (c : Command) → (o ≡ Some c) ↔ Spells words c
exact-read words name arguments o e are c = rw (e, are) (command_of-exact (name ∷ arguments) c)
