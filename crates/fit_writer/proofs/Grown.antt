-- The bytes of a file with one record more.
use Rattle.std.proofs.Common.{◌≡◌, ◌∙◌, ℕ, ◌+◌, ◌<◌, ◌^◌, ◌≤◌, ◌⊎◌, List, [], ◌∷◌, ◌++◌, length, reverse}
use Rattle.std.proofs.Common.{Bool, true, false, refl, sym, ap, subst, arith, inl, inr}
use Rattle.std.specs.Prelude.{IsTrue}
use Rattle.std.proofs.lemmas.Bool.{cases_lt}
use Rattle.std.proofs.lemmas.List.{append-nil, length-append, reverse-append, reverse-reverse}
use Rattle.std.specs.Global.{Global}
use Rattle.fit_record.proofs.RecordLists.{all_fit-append, records_bytes-append}
use Rattle.fit_record.specs.declared.message.Record.{Record}
use Rattle.fit_record.specs.Environment.{Environment, empty_environment, learn_all}
use Rattle.fit_record.specs.Records.{AllFit, Fits, record_bytes, records_bytes}
use Rattle.fit_profile.proofs.KnownFacts.{known_learned}
use Rattle.fit_profile.specs.Looks.{known}
use Rattle.fit_writer.specs.Written.{data_length}
use Rattle.fit_writer.specs.inner.OpenFiles.{AreData}

last : (s : List (Record Global)) (r : Record Global) → reverse (r ∷ s) ≡ reverse s ++ r ∷ []
last s r = reverse-append (r ∷ []) s

known_is : (s : List (Record Global)) → known s ≡ learn_all empty_environment (reverse s)
known_is s = ap known (sym (reverse-reverse s)) ∙ known_learned (reverse s)

grown : (s : List (Record Global)) (r : Record Global) (section bytes : List ℕ) → section ≡ records_bytes empty_environment (reverse s)
    → bytes ≡ record_bytes (known s) r → section ++ bytes ≡ records_bytes empty_environment (reverse (r ∷ s))
grown s r section bytes are is =
    ap (λ d. d ++ bytes) are
    ∙ ap (λ b. records_bytes empty_environment (reverse s) ++ b)
    (is ∙ ap (λ (e : Environment Global). record_bytes e r) (known_is s)
    ∙ sym (append-nil (record_bytes (learn_all empty_environment (reverse s)) r)))
    ∙ sym (records_bytes-append empty_environment (reverse s) (r ∷ [])) ∙ ap (records_bytes empty_environment) (sym (last s r))

-- it has no fewer of them
pub no_shorter : (s : List (Record Global)) (r : Record Global) → data_length s ≤ data_length (r ∷ s)
no_shorter s r =
    let first = records_bytes empty_environment (reverse s) in
    let more = record_bytes (known s) r in
    omega (arith, ap length (grown s r first more refl refl), length-append first more)

pub grown_length : (s : List (Record Global)) (r : Record Global) (section bytes : List ℕ) → AreData section s → bytes ≡ record_bytes (known s) r
    → data_length (r ∷ s) ≡ length section + length bytes
grown_length s r section bytes are is = sym (ap length (grown s r section bytes are.data_are is)) ∙ length-append section bytes

pub are_more : (s : List (Record Global)) (r : Record Global) (section bytes : List ℕ) → AreData section s → Fits (known s) r → bytes ≡ record_bytes (known s) r
    → length section + length bytes < 2 ^ 32 → AreData (section ++ bytes) (r ∷ s)
are_more s r section bytes are fits is room = record {
  data_are = grown s r section bytes are.data_are is;
  short = omega (arith, length-append section bytes, room);
  fit = subst (AllFit empty_environment) (sym (last s r))
      (all_fit-append empty_environment (reverse s) (r ∷ []) are.fit (subst (λ (e : Environment Global). Fits e r) (known_is s) fits, tt));
}

-- with two records more
pub grown_twice : (s : List (Record Global)) (a b : Record Global) (section first second : List ℕ) → AreData section s → first ≡ record_bytes (known s) a
    → second ≡ record_bytes (known (a ∷ s)) b → data_length (b ∷ a ∷ s) ≡ length section + (length first + length second)
grown_twice s a b section first second are is after =
    let one : section ++ first ≡ records_bytes empty_environment (reverse (a ∷ s)) = grown s a section first are.data_are is in
    let two : (section ++ first) ++ second ≡ records_bytes empty_environment (reverse (b ∷ a ∷ s)) = grown (a ∷ s) b (section ++ first) second one after in
    omega (arith, ap length two, length-append (section ++ first) second, length-append section first)

-- ---- room

pub no_room : (b : Bool) (n m : ℕ) → b ≡ false → (n < m → IsTrue b) → m ≤ n
no_room b n m is has = go (cases_lt n m)
  where
    go : (n < m) ⊎ (m ≤ n) → m ≤ n
    go (inl less) = let t : b ≡ true = has less in absurd (cc (sym is ∙ t))
    go (inr le) = le

pub too_long : (b : Bool) (n m : ℕ) → n ≡ m → b ≡ false → (m < 2 ^ 32 → IsTrue b) → 2 ^ 32 ≤ n
too_long b n m size is has = omega (arith, size, no_room b m (2 ^ 32) is has)
