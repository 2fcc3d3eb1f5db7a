-- Amounts as a reader is told them, message by message.
use Rattle.std.proofs.Common.{◌≡◌, ◌∙◌, ℕ, zero, suc, ◌+◌, Bool, true, false, cond, List, [], ◌∷◌, ◌++◌, length, map, refl, sym, ap, subst, arith}
use Rattle.std.proofs.lemmas.Bool.{eq-eqb, eqb-true}
use Rattle.std.proofs.lemmas.List.{map-append}
use Rattle.std.specs.Global.{Global}
use Rattle.std.specs.Prelude.{◌==◌, ◌&&◌, ◌↔◌, Option, Some, None, IsSomeAnd, IsTrue, Result, Ok, Err, IfOk}
use Rattle.fit_record.specs.declared.file.FitFile.{FitFile}
use Rattle.fit_record.specs.declared.environment.Defined.{Defined}
use Rattle.fit_record.specs.declared.message.Record.{Record}
use Rattle.fit_record.specs.declared.message.Record.TheVariants.{Values as Data}
use Rattle.fit_record.specs.declared.message.Values.{Values}
use Rattle.fit_record.specs.Environment.{defined_at}
use Rattle.fit_record.specs.Records.{DataFits, IsRecord}
use Rattle.fit_profile.specs.Looks.{known}
use Rattle.fit_profile.specs.Taken.{IsTaken}
use Rattle.fit_profile.specs.Told.{told}
use Rattle.fit_profile.specs.declared.message_bytes.Taken.{Taken}
use Rattle.fit_writer.specs.Amounts.{Amounts, IsToldAmounts, SameFirst, amounts_by, amounts_in, has_amounts, latest_amounts}
use Rattle.fit_writer.specs.declared.done.Put.{Put}
use Rattle.fit_writer.specs.declared.file.OpenFile.{OpenFile}
use Rattle.fit_writer.specs.declared.refusal.Refusal.{Refusal}
use Rattle.fit_writer.specs.inner.OpenFiles.{writing_of}

-- what is told of a message that is taken in
pub told_by : (s : List (Record Global)) (v : Values Global) (bytes : List ℕ) (t : Taken) → IsRecord (known s) (Data v) bytes
    → ((w : Values Global) (p : Defined Global) → IsRecord (known s) (Data w) bytes → defined_at (known s) w.local ≡ Some p
    → IsTaken (told s w) w p.definition t)
    → amounts_in t.told ≡ latest_amounts (Data v ∷ s)
told_by s v bytes t is said = go (defined_at (known s) v.local) refl is.0
  where
    go : (o : Option (Defined Global)) → defined_at (known s) v.local ≡ o → IsSomeAnd o (DataFits v) → amounts_in t.told ≡ amounts_in (told s v)
    go (Some p) there fits = ap amounts_in (said v p is there).told
    go None there fits = absurd fits

-- ---- the first ones that are the same

-- all were, and the one more is
one_same : (read said : List Amounts) (n : ℕ) (a b : Amounts) → SameFirst read said n → n ≡ length read → a ≡ b
    → SameFirst (read ++ a ∷ []) (said ++ b ∷ []) (suc n)
one_same [] [] zero a b is all same = (same, tt)
one_same (x ∷ read) (y ∷ said) zero a b is all same = absurd (omega (arith, all))
one_same (x ∷ read) (y ∷ said) (suc n) a b is all same = (is.0, one_same read said n a b is.1 (omega (arith, all)) same)
one_same [] [] (suc n) a b is all same = absurd is
one_same [] (y ∷ said) n a b is all same = absurd is
one_same (x ∷ read) [] n a b is all same = absurd is

-- not all were, or the one more isn't
one_other : (read said : List Amounts) (n : ℕ) (a b : Amounts) → SameFirst read said n → (n ≡ length read → a ≡ b → ⊥)
    → SameFirst (read ++ a ∷ []) (said ++ b ∷ []) n
one_other [] [] zero a b is other = other refl
one_other (x ∷ read) (y ∷ said) zero a b is other = is
one_other (x ∷ read) (y ∷ said) (suc n) a b is other = (is.0, one_other read said n a b is.1 (λ all. other (omega (arith, all))))
one_other [] [] (suc n) a b is other = absurd is
one_other [] (y ∷ said) n a b is other = absurd is
one_other (x ∷ read) [] n a b is other = absurd is

-- ---- of a run

more_same : (read said : List Amounts) (n count : ℕ) (a b : Amounts) (t is_told : Bool) → (n == count) ≡ t → count ≡ length read
    → (IsTrue is_told ↔ (a ≡ b)) → SameFirst read said n → SameFirst (read ++ a ∷ []) (said ++ b ∷ []) (cond (t && is_told) (count + 1) n)
more_same read said n count a b true true test all iff same =
    let e : n ≡ count = eqb-true n count test in
    subst (λ (k : ℕ). SameFirst (read ++ a ∷ []) (said ++ b ∷ []) k) (omega (arith, e)) (one_same read said n a b same (omega (arith, e, all)) (iff.0 refl))
more_same read said n count a b true false test all iff same = one_other read said n a b same (λ e is. cc (iff.1 is))
more_same read said n count a b false is_told test all iff same =
    one_other read said n a b same (λ e is. cc (sym test ∙ eq-eqb n count (omega (arith, e, all))))

-- one more was put
pub told_more : (has : Bool) (blocks : List (List ℕ)) (read : List Amounts) (block : List ℕ) (n count : ℕ) (a : Amounts) (is_told : Bool)
    → count ≡ length read → SameFirst read (map (amounts_by has) blocks) n → (IsTrue is_told ↔ (a ≡ amounts_by has block))
    → SameFirst (read ++ a ∷ []) (map (amounts_by has) (blocks ++ block ∷ [])) (cond ((n == count) && is_told) (count + 1) n)
told_more has blocks read block n count a is_told counted same iff =
    subst (λ xs. SameFirst (read ++ a ∷ []) xs (cond ((n == count) && is_told) (count + 1) n)) (sym (map-append (amounts_by has) blocks (block ∷ [])))
    (more_same read (map (amounts_by has) blocks) n count a (amounts_by has block) (n == count) is_told refl counted iff same)

-- ---- of one message

pub told_amounts : (files : List (FitFile Global)) (is_open : Bool) (new : OpenFile) (definition block : List ℕ) (has : Bool)
    (r : Result Put Refusal) → is_open ≡ true → has ≡ has_amounts definition
    → IfOk r (λ put. IsTrue put.accumulated ↔ (latest_amounts new.stream ≡ amounts_by has block))
    → IfOk r (λ put. IsToldAmounts (writing_of files is_open new) definition block put.accumulated)
told_amounts files is_open new definition block has (Err why) is has_is iff = tt
told_amounts files is_open new definition block has (Ok p) is has_is iff =
    subst (λ (b : Bool). IsToldAmounts (writing_of files b new) definition block p.accumulated) (sym is) (
      latest_amounts new.stream,
      refl,
      subst (λ (b : Bool). IsTrue p.accumulated ↔ (latest_amounts new.stream ≡ amounts_by b block)) has_is iff,
    )
