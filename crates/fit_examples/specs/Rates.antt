-- The heart rates of record messages as one JSON document, an array.
use Rattle.std.specs.Prelude.{◌≡◌, ℕ, Bool, true, false, if◌then◌else◌, List, [], ◌∷◌, ◌++◌, Result, Ok, Err, codes, decimal}
use Rattle.std.specs.Option.{option_map_or}
use Rattle.std.specs.Io.KnownBytes.{Appends, Consumes}
use Rattle.std.specs.Global.{Global}
use Rattle.fit_chain.specs.Events.{Event, header, item, file_end}
use Rattle.fit_chain.specs.declared.event.Fault.TheVariants as faults
use Rattle.fit_report.specs.declared.fault.ReportFault.{ReportFault}
use Rattle.fit_report.specs.declared.fault.ReportFault.TheVariants.{Decode, NoMemory, Write}
use Rattle.fit_report.specs.Documents.{HasToldDocument}
use Rattle.fit_report.specs.Heard.{latest_records}
use Rattle.fit_report.specs.Reports.{Channel}
use Rattle.fit_examples.specs.declared.moments.Moment.{Moment}
use Rattle.fit_examples.specs.HeartRates.{record_moments}

abbrev pub are_some : List Moment → Bool
are_some [] = false
are_some (moment ∷ moments) = true

-- a heart rate, or `null` where there is none
abbrev pub rate_json : Moment → List ℕ
rate_json moment = option_map_or decimal moment.heart_rate (codes "null")

-- The heart rates of moments: a comma before each, but the bracket before the first where none came before them.
abbrev pub rates_json : Bool → List Moment → List ℕ
rates_json some [] = []
rates_json some (moment ∷ moments) = (if some then codes "," else codes "[") ++ rate_json moment ++ rates_json true moments

-- the end of the array: both brackets where nothing is in it
abbrev pub end_json : Bool → List ℕ
end_json some = if some then codes "]\n" else codes "[]\n"

-- the document
abbrev pub array_json : List Moment → List ℕ
array_json moments = rates_json false moments ++ end_json (are_some moments)

-- ---- event by event

-- the moments of events, which are listed with the latest first
abbrev pub moments_heard : {A : Type 0} → List (Event A) → List Moment
moments_heard [] = []
moments_heard (header h n ∷ heard) = moments_heard heard
moments_heard (item r ∷ heard) = moments_heard heard ++ record_moments (latest_records heard) r
moments_heard (file_end ∷ heard) = moments_heard heard

-- the text of an event after these events, the latest first
abbrev pub rate_line : {A : Type 0} → List (Event A) → Event A → List ℕ
rate_line heard (header h n) = []
rate_line heard (item r) = rates_json (are_some (moments_heard heard)) (record_moments (latest_records heard) r)
rate_line heard file_end = []

-- the text after all events
abbrev pub rates_end : {A : Type 0} → List (Event A) → List ℕ
rates_end heard = end_json (are_some (moments_heard heard))

-- ---- the document of an input

-- What was put of the events of the bytes taken, and of the ending, as `report_document` says.
abbrev pub ReportsRates : Channel → Channel → Result (Unit {0}) ReportFault → Type 0
ReportsRates source sink result =
    (taken : List ℕ) × (heard : List (Event Global)) × Consumes source.before source.after taken
    × HasToldDocument rate_line rates_end taken source sink heard result

-- The answer where the input is a chain with these moments: its document was put; or the source or the sink has failed, or memory was
-- refused.
abbrev pub PutsRates : List Moment → Channel → Channel → Result (Unit {0}) ReportFault → Type 0
PutsRates moments source sink (Ok _) = Appends sink.before sink.after (array_json moments)
PutsRates moments source sink (Err (Decode (faults.Read place))) = source.failed ≡ true
PutsRates moments source sink (Err (Decode fault)) = ⊥
PutsRates moments source sink (Err NoMemory) = source.failed ≡ false
PutsRates moments source sink (Err (Write written)) = sink.failed ≡ true
