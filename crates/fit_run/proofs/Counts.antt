-- The counts of what was heard, and the lines of it.
use Rattle.fit_run.proofs.Common.{◌≡◌, ℕ, ◌+◌, ◌<◌, ◌≤◌, List, [], ◌∷◌, ◌++◌, length, map, reverse, refl, sym, ap, ◌∙◌, subst, arith, append_assoc, decimal}
use Rattle.fit_run.proofs.Common.{flat_map, length-reverse, reverse-append, FitFile, Record, body, Event, header, item, file_end, file_events, AreHeard}
use Rattle.fit_run.proofs.Common.{hear_records, latest_records, text_of, heard_are_few, next_records, reverse-map, ChainsHaveLines, Counts, ended_files}
use Rattle.fit_run.proofs.Common.{latest_size, check_line, file_line, file_lines}
use Rattle.std.specs.Prelude.{codes}
use Rattle.std.proofs.lemmas.List.{append-nil}

pub few_files : {A : Type 0} (heard : List (Event A)) → ended_files heard ≤ length heard
few_files [] = omega arith
few_files (header h n ∷ heard) = omega (arith, few_files heard)
few_files (event ∷ heard) = omega (arith, few_files heard)

pub few_records : {A : Type 0} (heard : List (Event A)) → length (latest_records heard) ≤ length heard
few_records [] = omega arith
few_records (header h n ∷ heard) = omega arith
few_records (event ∷ heard) = omega (arith, few_records heard)

pub line_parts : (old k n records : List ℕ)
    → ((old ++ (codes "file " ++ k ++ codes ": ")) ++ (codes "" ++ n ++ codes " data bytes, ")) ++ (codes "" ++ records ++ codes " records\n")
    ≡ old ++ (codes "file " ++ k ++ codes ": " ++ n ++ codes " data bytes, " ++ records ++ codes " records\n")
line_parts old k n records = simp append_assoc

pub line_put : (old one two all : List ℕ) (k n records : ℕ) → one ≡ old ++ (codes "file " ++ decimal k ++ codes ": ")
    → two ≡ one ++ (codes "" ++ decimal n ++ codes " data bytes, ")
    → all ≡ two ++ (codes "" ++ decimal records ++ codes " records\n") → all ≡ old ++ file_line k n records
line_put old one two all k n records first second third =
    third ∙ ap (λ t. t ++ (codes "" ++ decimal records ++ codes " records\n")) (second ∙ ap (λ t. t ++ (codes "" ++ decimal n ++ codes " data bytes, ")) first)
    ∙ line_parts old (decimal k) (decimal n) (decimal records)

-- ---- one event more, and records that were passed over

module _ {A : Type 0} (heard : List (Event A)) where
  text_over : (rs : List (Record A)) → text_of check_line (map item rs ++ heard) ≡ text_of check_line heard
  text_over [] = refl
  text_over (r ∷ rs) = append-nil (text_of check_line (map item rs ++ heard)) ∙ text_over rs

  ended_over : (rs : List (Record A)) → ended_files (map item rs ++ heard) ≡ ended_files heard
  ended_over [] = refl
  ended_over (r ∷ rs) = ended_over rs

  size_over : (rs : List (Record A)) → latest_size (map item rs ++ heard) ≡ latest_size heard
  size_over [] = refl
  size_over (r ∷ rs) = size_over rs

  records_over : (rs : List (Record A)) → length (latest_records (map item rs ++ heard)) ≡ length rs + length (latest_records heard)
  records_over [] = omega arith
  records_over (r ∷ rs) = omega (arith, records_over rs)

  over : (rs : List (Record A)) → map item (reverse rs) ++ heard ≡ hear_records rs heard
  over rs = ap (λ es. es ++ heard) (sym (reverse-map item rs))

  pub silent_over : (rs : List (Record A)) → text_of check_line (hear_records rs heard) ≡ text_of check_line heard
  silent_over rs = ap (text_of check_line) (sym (over rs)) ∙ text_over (reverse rs)

  pub records_counted : (rs : List (Record A)) (files size records count : ℕ) → length rs ≡ count → Counts files size records heard
      → Counts files size (records + count) (hear_records rs heard)
  records_counted rs files size records count long c =
      subst (Counts files size (records + count)) (over rs) (record {
        of_files = c.of_files ∙ sym (ended_over (reverse rs));
        of_size = c.of_size ∙ sym (size_over (reverse rs));
        of_records = let of_records = c.of_records in omega (arith, of_records, long, records_over (reverse rs), length-reverse rs);
      })

pub few_counted : {A : Type 0} (files size records : ℕ) (heard : List (Event A)) → Counts files size records heard → AreHeard heard
    → (files < 144115188075855872) × (records < 144115188075855872)
few_counted files size records heard c are =
    let few = heard_are_few heard are in
    let of_files = c.of_files in
    let of_records = c.of_records in
    (omega (arith, few, of_files, few_files heard), omega (arith, few, of_records, few_records heard))

-- ---- the lines of a chain

module _ {A : Type 0} (f : FitFile A) (before : List (Event A)) where
  abbrev since : List (Event A)
  since = header f.header (length (body f)) ∷ before

  file_heard : reverse (file_events f) ++ before ≡ file_end ∷ (map item (reverse f.records) ++ header f.header (length (body f)) ∷ before)
  file_heard =
      ap (λ es. es ++ before) (reverse-append (header f.header (length (body f)) ∷ map item f.records) (file_end ∷ [])
      ∙ ap (λ es. file_end ∷ es) (reverse-append (header f.header (length (body f)) ∷ []) (map item f.records)
      ∙ ap (λ es. es ++ header f.header (length (body f)) ∷ []) (reverse-map item f.records)))
      ∙ ap (λ es. file_end ∷ es) (append_assoc (map item (reverse f.records)) (header f.header (length (body f)) ∷ []) before)

  file_text : text_of check_line (reverse (file_events f) ++ before)
      ≡ text_of check_line before ++ file_line (ended_files before + 1) (length (body f)) (length f.records)
  file_text =
      ap (text_of check_line) file_heard
      ∙ (λ i. (text_over since (reverse f.records) ∙ append-nil (text_of check_line before)) i
      ++ file_line (ended_over since (reverse f.records) i + 1) (size_over since (reverse f.records) i)
      (length (next_records (reverse f.records) f.header (length (body f)) before i)))
      ∙ ap (λ m. text_of check_line before ++ file_line (ended_files before + 1) (length (body f)) m) (length-reverse f.records)

  file_ended : ended_files (reverse (file_events f) ++ before) ≡ ended_files before + 1
  file_ended = ap ended_files file_heard ∙ ap (λ k. k + 1) (ended_over since (reverse f.records))

files_text : {A : Type 0} (fs : List (FitFile A)) (before : List (Event A))
    → text_of check_line (reverse (flat_map file_events fs) ++ before) ≡ text_of check_line before ++ file_lines (ended_files before + 1) fs
files_text [] before = sym (append-nil (text_of check_line before))
files_text (f ∷ fs) before =
    ap (text_of check_line) (ap (λ es. es ++ before) (reverse-append (file_events f) (flat_map file_events fs))
    ∙ append_assoc (reverse (flat_map file_events fs)) (reverse (file_events f)) before)
    ∙ files_text fs (reverse (file_events f) ++ before)
    ∙ (λ i. file_text f before i ++ file_lines (file_ended f before i + 1) fs)
    ∙ append_assoc (text_of check_line before) (file_line (ended_files before + 1) (length (body f)) (length f.records))
    (file_lines (ended_files before + 1 + 1) fs)

pub chains_have_lines : {A : Type 0} → ChainsHaveLines A
chains_have_lines fs = ap (text_of check_line) (sym (append-nil (reverse (flat_map file_events fs)))) ∙ files_text fs []
