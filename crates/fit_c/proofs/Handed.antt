-- What a text has that was handed over.
use Rattle.fit_c.proofs.Common.{◌≡◌, inr, inl, true, false, Bool, ℕ, List, [], Option, Some, None, Result, Ok, Err, ◌++◌, refl, sym, ap, ◌∙◌, subst, flat_map}
use Rattle.fit_c.proofs.Common.{is_ok, reverse, Global, file_events, Lines, text_of, Channel, ReportsChain, CsvFault, Answers, FromTextOf, IsTextOf}
use Rattle.fit_c.proofs.Common.{IsTextUnlessNoMemory, conversion_answer, given, report_answer}
use Rattle.fit_c.proofs.Common.{AreBlocksOf, BlocksFault, FromBlocks, FromBlocksOf, OnOk, blocks_answer}
use Rattle.std.specs.Io.KnownBytes.{Appends}
use Rattle.fit_record.specs.declared.file.FitFile.{FitFile}
use Rattle.fit_report.specs.declared.fault.ReportFault.{ReportFault}
use Rattle.fit_chain.specs.declared.event.Fault.TheVariants as faults
use Rattle.fit_report.specs.declared.fault.ReportFault.TheVariants as reports
use Rattle.fit_csv.specs.declared.fault.CsvFault.TheVariants as csv
use Rattle.fit_from_messages.specs.declared.fault.BlocksFault.TheVariants as blocks
use Rattle.fit_c.proofs.Said.{blocks_bad, conversion_bad}

-- what was put in a sink that was empty is all that it has
put : (before after : Option (List ℕ)) (items text : List ℕ) → before ≡ Some [] → Some items ≡ after → Appends before after text → items ≡ text
put (Some zs) (Some xs) items text none is more = let one : items ≡ xs = cc in let two : zs ≡ [] = cc in one ∙ more ∙ ap (λ z. z ++ text) two
put (Some zs) None items text none is more = absurd more
put None after items text none is more = absurd cc

pub shown_chain : (line : Lines Global) (fs : List (FitFile Global)) (source sink : Channel) (r : Result (Unit {0}) ReportFault) (items : List ℕ)
    → source.failed ≡ false → sink.before ≡ Some [] → Some items ≡ sink.after → ReportsChain line fs source sink r
    → IsTextUnlessNoMemory (text_of line (reverse (flat_map file_events fs))) (report_answer r) items
shown_chain line fs source sink (Ok u) items works none is told = inr (refl, put sink.before sink.after items _ none is told)
shown_chain line fs source sink (Err (reports.Decode (faults.Read place))) items works none is bad = let both : true ≡ false = sym bad ∙ works in absurd cc
shown_chain line fs source sink (Err (reports.Decode (faults.Refused place reason))) items works none is bad = absurd bad
shown_chain line fs source sink (Err (reports.Decode (faults.Truncated place))) items works none is bad = absurd bad
shown_chain line fs source sink (Err (reports.Decode (faults.NoMemory used))) items works none is bad = absurd bad
shown_chain line fs source sink (Err reports.NoMemory) items works none is some = inl refl
shown_chain line fs source sink (Err (reports.Write written)) items works none is some = inl refl

-- ---- the bytes of a text, which are handed over where all was good

module _ (sink : Channel) (good : Bool) (items : List ℕ) (none : sink.before ≡ Some []) (is : good ≡ true → Some items ≡ sink.after) where
  pub text_good : (text : List ℕ) (r : Result (Unit {0}) CsvFault) → good ≡ is_ok r → Answers text (given text []) sink r → (conversion_answer r).status ≡ 0
      → (files : List (FitFile Global)) × IsTextOf text files items
  text_good text (Ok u) so (out, (files, bytes, of, more, fine)) zero =
      (files, subst (IsTextOf text files) (sym (put sink.before sink.after items bytes none (is so) more)) of)
  text_good text (Err fault) so bad zero = absurd (conversion_bad fault zero)

  pub bytes_back : (bytes : List ℕ) (source : Channel) (r : Result (Unit {0}) CsvFault) → source.failed ≡ false → good ≡ is_ok r
      → FromTextOf bytes source sink r → IsTextUnlessNoMemory bytes (conversion_answer r) items
  bytes_back bytes source (Ok u) works so (more, fine) = inr (refl, put sink.before sink.after items bytes none (is so) more)
  bytes_back bytes source (Err (csv.Decode fault)) works so bad = absurd bad
  bytes_back bytes source (Err csv.Header) works so bad = absurd bad
  bytes_back bytes source (Err (csv.BadRow row)) works so bad = absurd bad
  bytes_back bytes source (Err (csv.BadCell row column)) works so bad = absurd bad
  bytes_back bytes source (Err (csv.Encode fault)) works so bad = absurd bad
  bytes_back bytes source (Err csv.NoMemory) works so some = inl refl
  bytes_back bytes source (Err csv.Read) works so bad = let both : true ≡ false = sym bad ∙ works in absurd cc
  bytes_back bytes source (Err (csv.Write written)) works so some = inl refl

  pub blocks_good : (b : List ℕ) (r : Result (Unit {0}) BlocksFault) → good ≡ is_ok r → OnOk r (FromBlocks b sink) → (blocks_answer r).status ≡ 0
      → (files : List (FitFile Global)) × AreBlocksOf b files items
  blocks_good b (Ok u) so (files, bytes, of, more, fine) zero =
      (files, subst (AreBlocksOf b files) (sym (put sink.before sink.after items bytes none (is so) more)) of)
  blocks_good b (Err fault) so bad zero = absurd (blocks_bad fault zero)

  pub blocks_back : (bytes : List ℕ) (r : Result (Unit {0}) BlocksFault) → good ≡ is_ok r → FromBlocksOf bytes sink r
      → IsTextUnlessNoMemory bytes (blocks_answer r) items
  blocks_back bytes (Ok u) so (more, fine) = inr (refl, put sink.before sink.after items bytes none (is so) more)
  blocks_back bytes (Err (blocks.Block number place reason)) so bad = absurd bad
  blocks_back bytes (Err (blocks.Encode fault)) so bad = absurd bad
  blocks_back bytes (Err blocks.NoMemory) so some = inl refl
  blocks_back bytes (Err (blocks.Write written)) so some = inl refl
