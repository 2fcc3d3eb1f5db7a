-- What `from-csv` makes of a text is one.
use Rattle.fit_run.proofs.Common.{◌≡◌, ◌⊎◌, ◌∙◌, inl, inr, ℕ, ◌<◌, ◌≤◌, ◌^◌, List, [], ◌++◌, length, Option, Some, None, Result, Ok, Err, refl, sym}
use Rattle.fit_run.proofs.Common.{ap, subst, arith, length-append, IfSome, Appends, Consumes, IsAtEnd, Channel, CsvFault, BadCell, BadRow, Decode, Encode}
use Rattle.fit_run.proofs.Common.{Write, IsTextFinding, IsWrong, ReadsText, UnlessWritten, TextsHaveOneFinding, HasRun, FromCsv, Concludes}
use Rattle.std.specs.Prelude.{IfErr}
use Rattle.std.proofs.KnownBytes.{Appends-nil, Consumes-whole}
use Rattle.fit_csv.specs.declared.fault.CsvFault.TheVariants.{Header, NoMemory, Read}
use Rattle.fit_encode.specs.declared.fault.EncodeFault.TheVariants as encode

-- the status, and the bytes that are written, by what is found of the text
abbrev found_status : Result (List ℕ) CsvFault → ℕ
found_status (Ok bytes) = 0
found_status (Err fault) = 1

abbrev found_bytes : Result (List ℕ) CsvFault → List ℕ
found_bytes (Ok bytes) = bytes
found_bytes (Err fault) = []

-- the text is too long, or this is found of it
abbrev Tells : List ℕ → ℕ → List ℕ → Type 0
Tells input status bytes = ((2 ^ 62 < length input) × (status ≡ 4) × (bytes ≡ []))
    ⊎ ((found : Result (List ℕ) CsvFault) × IsTextFinding input found × (status ≡ found_status found) × (bytes ≡ found_bytes found))

pub record Made (input : List ℕ) (output : Channel) (status : ℕ) : Type 0 where
  pub bytes : List ℕ
  pub put : Appends output.before output.after bytes
  pub tells : Tells input status bytes

-- a text of which something is found isn't too long
short : (text : List ℕ) (found : Result (List ℕ) CsvFault) → IsTextFinding text found → length text ≤ 2 ^ 62
short text (Ok bytes) (files, h) = h.short
short text (Err Header) h = h.0
short text (Err (BadRow row)) h = h.0
short text (Err (BadCell row column)) h = h.0
short text (Err (Encode (encode.TooLong file index))) h = h.0
short text (Err (Encode (encode.ZeroIsSum file))) h = h.0
short text found h = absurd h

-- all that a source had was taken, where it is at its end
all_taken : (before after : Option (List ℕ)) (input taken : List ℕ) → before ≡ Some input → Consumes before after taken → IsAtEnd after → taken ≡ input
all_taken before after input taken has eats end =
    subst (λ (b : Option (List ℕ)). IfSome b (λ t. taken ≡ t)) has (Consumes-whole before after taken (λ t. taken ≡ t) eats end refl)

some_taken : (before after : Option (List ℕ)) (input taken : List ℕ) → before ≡ Some input → Consumes before after taken → length taken ≤ length input
some_taken before None input taken has eats = absurd (subst (λ (b : Option (List ℕ)). Consumes b None taken) has eats)
some_taken before (Some left) input taken has eats =
    let is : input ≡ taken ++ left = subst (λ (b : Option (List ℕ)). Consumes b (Some left) taken) has eats in
    let long = ap length is in
    omega (arith, length-append taken left)

-- nothing was written
none_put : (before after : Option (List ℕ)) → after ≡ before → Appends before after []
none_put before after same = subst (λ (a : Option (List ℕ)). Appends before a []) (sym same) (Appends-nil before)

module _ (input : List ℕ) {status : ℕ} {text : List ℕ} (h : HasRun FromCsv input status text) where
  wrong : (fault : CsvFault) (taken : List ℕ) → Consumes h.source.before h.source.after taken → IsAtEnd h.source.after → IsWrong taken fault
      → h.output.after ≡ h.output.before → status ≡ 1
      → Made input h.output status
  wrong fault taken eats end is same one = record {
    bytes = [];
    put = none_put h.output.before h.output.after same;
    tells = inr (Err fault, subst (λ (t : List ℕ). IsWrong t fault) (all_taken h.source.before h.source.after input taken h.read eats end) is, one, refl);
  }

  pub made : (answer : Result (Unit {0}) CsvFault) → ReadsText h.source h.output answer
      → IfErr answer (λ fault. UnlessWritten fault (h.output.after ≡ h.output.before))
      → Concludes answer h.faults status → Made input h.output status
  made (Ok u) (taken, eats, (out, (files, bytes, is, put, fine))) kept (keeps, zero) = record {
    bytes = bytes;
    put = put;
    tells = inr (
      Ok bytes,
      subst (λ (t : List ℕ). IsTextFinding t (Ok bytes)) (all_taken h.source.before h.source.after input taken h.read eats out.0) (files, is),
      zero,
      refl,
    );
  }
  made (Err Read) (taken, eats, inl failed) kept said = absurd (cc)
  made (Err Read) (taken, eats, inr long) kept (puts, four) =
      let some = some_taken h.source.before h.source.after input taken h.read eats in
      record { bytes = []; put = none_put h.output.before h.output.after kept; tells = inl (omega arith, four, refl) }
  made (Err NoMemory) (taken, eats, answer) kept (puts, three) = absurd (h.memory three)
  made (Err (Write written)) (taken, eats, (out, (files, bytes, is, stops))) kept said = let stopped = stops.stopped in absurd (cc)
  made (Err (Decode fault)) (taken, eats, answer) kept said = absurd answer.1
  made (Err fault) (taken, eats, answer) kept (puts, one) = wrong fault taken eats answer.0.0 answer.1 kept one

told_alike : TextsHaveOneFinding → (input : List ℕ) (status again : ℕ) (bytes others : List ℕ) → Tells input status bytes → Tells input again others
    → (status ≡ again) × (bytes ≡ others)
told_alike law input status again bytes others (inl (long, four, none)) (inl (long_too, four_too, none_too)) = (four ∙ sym four_too, none ∙ sym none_too)
told_alike law input status again bytes others (inl (long, four, none)) (inr (found, is, status_is, bytes_is)) =
    (let few = short input found is in absurd (omega arith))
told_alike law input status again bytes others (inr (found, is, status_is, bytes_is)) (inl (long, four, none)) =
    (let few = short input found is in absurd (omega arith))
told_alike law input status again bytes others (inr (found, is, status_is, bytes_is)) (inr (other, is_too, other_status, other_bytes)) =
    let same = law input found other is is_too in
    (status_is ∙ ap found_status same ∙ sym other_status, bytes_is ∙ ap found_bytes same ∙ sym other_bytes)

pub made_alike : TextsHaveOneFinding → (input : List ℕ) (output other : Channel) (status again : ℕ) (p : Made input output status) (q : Made input other again)
    → (status ≡ again) × (p.bytes ≡ q.bytes)
made_alike law input output other status again p q = told_alike law input status again p.bytes q.bytes p.tells q.tells
