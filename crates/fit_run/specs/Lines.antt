-- The lines that the program writes.
use Rattle.std.specs.Prelude.{◌≡◌, ℕ, ◌+◌, List, [], ◌∷◌, ◌++◌, length, codes, decimal}
use Rattle.fit_frame.specs.declared.reason.Reason.{Reason}
use Rattle.fit_frame.specs.ReasonNames.{reason_name}
use Rattle.fit_record.specs.declared.file.FitFile.{FitFile}
use Rattle.fit_record.specs.Files.{body}
use Rattle.fit_chain.specs.Events.{Event, header, item, file_end}
use Rattle.fit_encode.specs.declared.fault.EncodeFault.{EncodeFault}
use Rattle.fit_encode.specs.declared.fault.EncodeFault.TheVariants as encode
use Rattle.fit_report.specs.Heard.{Lines, latest_records}

-- file k of the input has n bytes of data, in that many records
abbrev pub file_line : ℕ → ℕ → ℕ → List ℕ
file_line k n records = codes "file " ++ decimal k ++ codes ": " ++ decimal n ++ codes " data bytes, " ++ decimal records ++ codes " records\n"

-- the lines of files, the first of which is file k
abbrev pub file_lines : {A : Type 0} → ℕ → List (FitFile A) → List ℕ
file_lines k [] = []
file_lines k (f ∷ fs) = file_line k (length (body f)) (length f.records) ++ file_lines (k + 1) fs

abbrev pub ok_line : List ℕ
ok_line = codes "ok\n"

abbrev pub refused_line : ℕ → Reason → List ℕ
refused_line place reason = codes "refused at byte " ++ decimal place ++ codes ": " ++ reason_name reason ++ codes "\n"

abbrev pub truncated_line : ℕ → List ℕ
truncated_line place = codes "truncated at byte " ++ decimal place ++ codes "\n"

abbrev pub read_fault_line : ℕ → List ℕ
read_fault_line place = codes "read fault at byte " ++ decimal place ++ codes "\n"

abbrev pub write_fault_line : List ℕ
write_fault_line = codes "write fault\n"

abbrev pub header_row_line : List ℕ
header_row_line = codes "header row refused\n"

abbrev pub row_line : ℕ → List ℕ
row_line row = codes "row " ++ decimal row ++ codes " refused\n"

abbrev pub cell_line : ℕ → ℕ → List ℕ
cell_line row column = codes "row " ++ decimal row ++ codes " column " ++ decimal column ++ codes " refused\n"

-- the reading of a text failed
abbrev pub text_fault_line : List ℕ
text_fault_line = codes "read fault\n"

-- Rows are those of files that have no bytes; only these two faults are left to the encoder.
abbrev pub encode_line : EncodeFault → List ℕ
encode_line (encode.ZeroIsSum file) = codes "encode fault: ZeroIsSum\n"
encode_line (encode.TooLong file index) = codes "encode fault: TooLong\n"
encode_line fault = codes "encode fault\n"

abbrev pub out_of_memory_line : List ℕ
out_of_memory_line = codes "out of memory\n"

-- ---- of events, the latest first

-- how many files have ended
abbrev pub ended_files : {A : Type 0} → List (Event A) → ℕ
ended_files [] = 0
ended_files (header h n ∷ heard) = ended_files heard
ended_files (item r ∷ heard) = ended_files heard
ended_files (file_end ∷ heard) = ended_files heard + 1

-- how many bytes of data the last header states
abbrev pub latest_size : {A : Type 0} → List (Event A) → ℕ
latest_size [] = 0
latest_size (header h n ∷ heard) = n
latest_size (item r ∷ heard) = latest_size heard
latest_size (file_end ∷ heard) = latest_size heard

-- These are the files that have ended, the bytes of data that the last header states, and the records after it.
pub record Counts {A : Type 0} (files size records : ℕ) (heard : List (Event A)) : Type 0 where
  pub of_files : files ≡ ended_files heard
  pub of_size : size ≡ latest_size heard
  pub of_records : records ≡ length (latest_records heard)

-- What `check` writes of an event after those before it: at the end of a file its line.
abbrev pub check_line : {A : Type 0} → Lines A
check_line heard (header h n) = []
check_line heard (item r) = []
check_line heard file_end = file_line (ended_files heard + 1) (latest_size heard) (length (latest_records heard))
