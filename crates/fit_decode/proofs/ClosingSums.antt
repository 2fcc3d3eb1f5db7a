-- What the bytes used of a piece leave in the fields in a closing checksum, as in the other sections.
use Rattle.fit_decode.proofs.Common.{◌≡◌, ℕ, ◌/◌, ◌%◌, ◌<◌, ◌≤◌, true, false, List, [], ◌∷◌, ◌++◌, length, take, slice_index, refl}
use Rattle.fit_decode.proofs.Common.{sym, ap, ◌∙◌, subst, arith, length-append, None, Ok, Err, IsBytes, little_bytes}
use Rattle.fit_decode.proofs.Common.{checksum, header_bytes, FitFile, Environment}
use Rattle.fit_decode.proofs.Common.{empty_environment, records_bytes, chain_limit}
use Rattle.fit_decode.proofs.Common.{Stop, Stage}
use Rattle.fit_decode.proofs.Common.{Answer, ClosingSum, at_header, at_data, HasCome}
use Rattle.fit_decode.proofs.Common.{IsRefused, ChainGoesOn, half_sum, SumFed, Fields}
use Rattle.fit_decode.proofs.Common.{InSum, Holds, HoldsAt, NextAnswer, refusal_of}
use Rattle.std.proofs.Common.{Bool}
use Rattle.std.specs.Prelude.{Result}
use Rattle.fit_step.specs.declared.stop.Stop.TheVariants.{Refused}
use Rattle.fit_decode.proofs.Sections.{in_section}
use Rattle.fit_chain.proofs.SumFed.{sum_fronts, sum_quiet, sum_viable, file_come, file_goes, file_viable, file_least, sum_refuses}
use Rattle.fit_chain.specs.declared.event.Event.TheVariants as answers

part_short : (n : ℕ) (half : Bool) → length (half_sum n half) < 2
part_short n true = omega arith
part_short n false = omega arith

part_begins : (n : ℕ) (half : Bool) → (rest : List ℕ) × (little_bytes 2 n ≡ half_sum n half ++ rest)
part_begins n true = (n / 256 % 256 ∷ [], refl)
part_begins n false = (little_bytes 2 n, refl)

module _ {A : Type 0} (d : Fields A) (at : d.stage.section ≡ ClosingSum) (bytes piece : List ℕ) (k : InSum d bytes) (are : IsBytes bytes)
    (low : IsBytes piece) where
  abbrev value : ℕ
  value = checksum d.sum

  abbrev part : List ℕ
  part = half_sum (checksum d.sum) d.stage.half

  sums : little_bytes 2 (checksum d.sum) ≡ little_bytes 2 (checksum (header_bytes k.header k.size ++ records_bytes empty_environment k.records))
  sums = ap (λ l. little_bytes 2 (checksum l)) k.summed

  short : (half : Bool) (used : ℕ) → part ++ take used piece ≡ half_sum value half → length (part ++ take used piece) < 2
  short half used joined = omega (arith, ap length joined, part_short value half)

  begins_sum : (half : Bool) (used : ℕ) → part ++ take used piece ≡ half_sum value half
      → (rest : List ℕ) × (little_bytes 2 (checksum (header_bytes k.header k.size ++ records_bytes empty_environment k.records))
      ≡ (part ++ take used piece) ++ rest)
  begins_sum half used joined = let begins = part_begins value half in (begins.0, sym sums ∙ begins.1 ∙ ap (λ l. l ++ begins.0) (sym joined))

  pub sum_fed : (stage : Stage) (env : Environment A) (sum : List ℕ) (used : ℕ) (answer : Result (Answer A) Stop)
      → SumFed d.stage d.env d.sum stage env sum piece used answer
      → NextAnswer (record d { stage = stage; env = env; sum = sum }) bytes piece used answer
  sum_fed stage env sum used (Ok answers.More) ((all, joined), covered, same, stays) =
      let within : used ≤ length piece = omega (arith, all) in
      let begins = begins_sum stage.half used joined in
      let come = sum_fronts k.files k.header k.size k.records part bytes piece k.come k.few k.over are low used within (short stage.half used joined) used
      (omega arith) in
      record {
        told = (all, sum_quiet k.files k.header k.size k.records part bytes piece k.come k.few k.over are low used within (short stage.half used joined));
        viable = sum_viable k.files k.header k.size k.records part bytes piece k.come k.few k.over are low used begins.0 within (short stage.half used joined)
            begins.1;
        holds = λ _. subst (λ s. Holds (record d { stage = s; env = env; sum = sum }) (bytes ++ take used piece)) (sym stays)
            (subst (λ c. HoldsAt c (record d { stage = record d.stage { half = stage.half }; env = env; sum = sum }) (bytes ++ take used piece)) (sym at)
            (record {
              files = k.files;
              header = k.header;
              size = k.size;
              records = k.records;
              come = subst (λ p. HasCome k.files (at_data k.header k.size k.records p) (bytes ++ take used piece))
                  (joined ∙ ap (λ l. half_sum (checksum l) stage.half) (sym covered)) come;
              few = k.few;
              counted = k.counted;
              fresh = k.fresh;
              summed = covered ∙ k.summed;
              known = same ∙ k.known;
              over = k.over;
              idle = k.idle;
            }));
        fresh = λ _. in_section d.stage stage (ap (λ (s : Stage). s.section) stays) (ap refusal_of at);
      }
  sum_fed stage env sum used (Ok answers.FileEnd) ((some, within, whole, joined), none, known, goes_on) =
      let is = joined ∙ sums in
      let come = file_come k.files k.header k.size k.records part bytes piece k.come k.few k.over are low used is in
      let goes = file_goes k.files k.header k.size k.records part bytes piece k.come k.few k.over are low in
      let file : FitFile A = record { header = k.header; records = k.records } in
      record {
        told = (some, within, file_least k.files k.header k.size k.records part bytes piece k.come k.few k.over are low used within is);
        viable = file_viable k.files k.header k.size k.records part bytes piece k.come k.few k.over are low used is;
        holds = λ _. subst (λ s. Holds (record d { stage = s; env = env; sum = sum }) (bytes ++ take used piece)) (sym goes_on)
            (record {
              files = k.files ++ file ∷ [];
              come = subst (λ l. HasCome (k.files ++ file ∷ []) (at_header l) (bytes ++ take used piece)) (sym none) come;
              goes = subst (λ l. ChainGoesOn chain_limit (k.files ++ file ∷ []) (at_header l)) (sym none) goes;
              counted = omega (arith, k.counted, length-append k.files (file ∷ []));
              whole = whole;
              read = k.fresh ∙ ap (λ l. record { bytes = l; refusal = None }) (sym none);
              known = known;
              idle = k.idle;
            });
        fresh = λ _. ap (λ (s : Stage). refusal_of s.section) goes_on;
      }
  sum_fed stage env sum used (Err (Refused reason)) ((is, within, joined, differs), covered, same, stays) =
      let begins = begins_sum stage.half used joined in
      let why = sum_refuses k.files k.header k.size k.records part bytes piece k.come k.few k.over are low used begins.0 within (short stage.half used joined)
      begins.1
      (λ more e. differs more (sums ∙ e ∙ ap (λ l. (l ++ slice_index piece used ∷ []) ++ more) joined)) in
      record {
        told = (
          within,
          sum_quiet k.files k.header k.size k.records part bytes piece k.come k.few k.over are low used (omega (arith, within)) (short stage.half used joined),
          subst (λ r. IsRefused A chain_limit (bytes ++ take used piece) (slice_index piece used) r) (sym is) why,
        );
        viable = why.viable;
        holds = λ never. absurd never;
        fresh = λ never. absurd never;
      }
  sum_fed stage env sum used answer fed = absurd fed
