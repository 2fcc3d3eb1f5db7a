-- What a command writes is determined by its input.
use Rattle.fit_run.proofs.Common.{◌≡◌, ◌≢◌, inl, inr, ℕ, List, [], ◌++◌, reverse, Some, Result, Ok, Err, refl, sym, ap, ◌∙◌, subst, Global}
use Rattle.fit_run.proofs.Common.{Appends, Consumes, append_cancel_left, reverse-reverse, IsBytes, Fault, Refused, Truncated, Event, AreEvents, EventsAreOne}
use Rattle.fit_run.proofs.Common.{ReasonsAreOne, Lines, text_of, Channel, CsvFault, rows_of, Converts, RowsOf, csv_text, table_of, Command, Check, Show, ToCsv}
use Rattle.fit_run.proofs.Common.{FromCsv, Table, TextsHaveOneFinding, HasRun, RunsAreOne, check_line, ok_line, refused_line, truncated_line, Concludes}
use Rattle.fit_run.proofs.Common.{ReportFinds, Runs, Says, good_bytes}
use Rattle.fit_chain.specs.declared.event.Fault.TheVariants.{NoMemory, Read}
use Rattle.fit_show.specs.ShowLines.{show_line}
use Rattle.fit_csv.specs.declared.fault.CsvFault.TheVariants as csv
use Rattle.fit_run.proofs.OneText.{made, made_alike}
use Rattle.fit_run.proofs.Findings.{IsFinding, found, one_finding}

-- the text of a finding, and of the events of the good bytes
abbrev pub Texts : Type 0
Texts = Result (Unit {0}) Fault → List (Event Global) → List ℕ

abbrev pub last_status : Result (Unit {0}) Fault → ℕ
last_status (Ok _) = 0
last_status (Err fault) = 1

abbrev pub last_line : Result (Unit {0}) Fault → List ℕ
last_line (Ok _) = ok_line
last_line (Err (Refused place reason)) = refused_line place reason
last_line (Err (Truncated place)) = truncated_line place
last_line (Err (NoMemory used)) = []
last_line (Err (Read place)) = []

module _ (texts : Texts) (input : List ℕ) where
  -- the text of what the input is was written
  pub record HasWritten (output : Channel) (status : ℕ) : Type 0 where
    pub answer : Result (Unit {0}) Fault
    pub events : List (Event Global)
    pub is : IsFinding Global input answer
    pub are : AreEvents (good_bytes answer input) events
    pub status_is : status ≡ last_status answer
    pub put : Appends output.before output.after (texts answer events)

  one_written : IsBytes input → ReasonsAreOne Global → EventsAreOne Global
      → (output other : Channel) (status again : ℕ) (p : HasWritten output status) (q : HasWritten other again)
      → (status ≡ again) × (texts p.answer p.events ≡ texts q.answer q.events)
  one_written are reasons lists output other status again p q =
      let same : p.answer ≡ q.answer = one_finding Global input are reasons p.answer q.answer p.is q.is in
      let events : p.events ≡ q.events = lists (good_bytes q.answer input) p.events q.events (subst (λ x. AreEvents (good_bytes x input) p.events) same p.are)
      q.are in
      (p.status_is ∙ ap last_status same ∙ sym q.status_is, λ i. texts (same i) (events i))

  -- ---- what a run has written

  module _ {command : Command} {status : ℕ} {text : List ℕ} (h : HasRun command input status text) where
    has_written : (taken : List ℕ) (answer : Result (Unit {0}) Fault) (events : List (Event Global)) → Consumes h.source.before h.source.after taken
        → ReportFinds Global taken h.source answer
        → AreEvents (good_bytes answer taken) events → status ≡ last_status answer → Appends h.output.before h.output.after (texts answer events)
        → HasWritten h.output status
    has_written taken answer events took finds are status_is put =
        let all = found Global input taken h.source answer (record { before = h.read; took = took; works = h.works; finds = finds }) in
        record { answer = answer; events = events; is = all.0; are = subst (λ b. AreEvents b events) all.1 are; status_is = status_is; put = put }

    module _ (rows : RowsOf) (texts_is : (answer : Result (Unit {0}) Fault) (events : List (Event Global)) → csv_text (rows events) ≡ texts answer events) where
      converted : (answer : Result (Unit {0}) CsvFault) → Converts rows h.source h.output answer → Concludes answer h.faults status → HasWritten h.output status
      converted (Ok x) (taken, took, (end, well, chain, (events, are, put))) (keeps, is) =
          has_written taken (Ok x) events took (end, well, chain) are is (subst (Appends h.output.before h.output.after) (texts_is (Ok x) events) put)
      converted (Err (csv.Decode (Refused place reason))) (taken, took, (fault, (events, are, put))) (puts, is) =
          has_written taken (Err (Refused place reason)) events took fault are is
          (subst (Appends h.output.before h.output.after) (texts_is (Err (Refused place reason)) events) put)
      converted (Err (csv.Decode (Truncated place))) (taken, took, (fault, (events, are, put))) (puts, is) =
          has_written taken (Err (Truncated place)) events took fault are is
          (subst (Appends h.output.before h.output.after) (texts_is (Err (Truncated place)) events) put)
      converted (Err (csv.Decode (Read place))) (taken, took, (fault, told)) said = let bad = fault.1 in absurd cc
      converted (Err csv.NoMemory) (taken, took, some) (puts, is) = absurd (h.memory is)
      converted (Err (csv.Write written)) (taken, took, ((k, events, are, (bad, n, short, put, counted)), near)) said = absurd cc
      converted (Err fault) (taken, took, none) said = absurd none

    module _ (line : Lines Global) (texts_is :
        (answer : Result (Unit {0}) Fault) (heard : List (Event Global)) → text_of line heard ++ last_line answer ≡ texts answer (reverse heard)) where
      said : (taken : List ℕ) (answer : Result (Unit {0}) Fault) (heard : List (Event Global)) → Consumes h.source.before h.source.after taken
          → ReportFinds Global taken h.source answer
          → AreEvents (good_bytes answer taken) (reverse heard) → Says answer (text_of line heard) h.output h.faults status → HasWritten h.output status
      said taken (Ok x) heard took finds are (inl (put, keeps, is)) =
          has_written taken (Ok x) (reverse heard) took finds are is (subst (Appends h.output.before h.output.after) (texts_is (Ok x) heard) put)
      said taken (Ok x) heard took finds are (inr (bad, n, short, put, puts, is)) = absurd cc
      said taken (Err (Refused place reason)) heard took finds are (inl (put, keeps, is)) =
          has_written taken (Err (Refused place reason)) (reverse heard) took finds are is
          (subst (Appends h.output.before h.output.after) (texts_is (Err (Refused place reason)) heard) put)
      said taken (Err (Refused place reason)) heard took finds are (inr (bad, n, short, put, puts, is)) = absurd cc
      said taken (Err (Truncated place)) heard took finds are (inl (put, keeps, is)) =
          has_written taken (Err (Truncated place)) (reverse heard) took finds are is
          (subst (Appends h.output.before h.output.after) (texts_is (Err (Truncated place)) heard) put)
      said taken (Err (Truncated place)) heard took finds are (inr (bad, n, short, put, puts, is)) = absurd cc
      said taken (Err (NoMemory used)) heard took none are says = absurd none
      said taken (Err (Read place)) heard took (is, bad, viable) are says = absurd cc

      ran : Runs line h.source h.output h.faults status → HasWritten h.output status
      ran (taken, took, inl (answer, heard, finds, are, says)) = said taken answer heard took finds are says
      ran (taken, took, inr (k, heard, are, inl (put, puts, is, wants), good)) = absurd (h.memory is)
      ran (taken, took, inr (k, heard, are, inr ((bad, n, short, put, puts, is), near), good)) = absurd cc

-- ---- by the commands

abbrev pub lines_text : Lines Global → Texts
lines_text line answer events = text_of line (reverse events) ++ last_line answer

abbrev pub command_texts : Command → Texts
command_texts Check = lines_text check_line
command_texts Show = lines_text show_line
command_texts ToCsv = λ answer events. csv_text (rows_of events)
command_texts FromCsv = λ answer events. []
command_texts Table = λ answer events. csv_text (table_of events)

lines_text_is : (line : Lines Global) (answer : Result (Unit {0}) Fault) (heard : List (Event Global))
    → text_of line heard ++ last_line answer ≡ lines_text line answer (reverse heard)
lines_text_is line answer heard = ap (λ events. text_of line events ++ last_line answer) (sym (reverse-reverse heard))

run_written : (command : Command) (input : List ℕ) (status : ℕ) (text : List ℕ) → command ≢ FromCsv → (h : HasRun command input status text)
    → HasWritten (command_texts command) input h.output status
run_written Check input status text other h =
    ran (lines_text check_line) input h check_line (lines_text_is check_line) h.runs
run_written Show input status text other h =
    ran (lines_text show_line) input h show_line (lines_text_is show_line) h.runs
run_written ToCsv input status text other h =
    converted (command_texts ToCsv) input h rows_of (λ answer events. refl) h.runs.0 h.runs.1 h.runs.2
run_written FromCsv input status text other h = absurd (other refl)
run_written Table input status text other h =
    converted (command_texts Table) input h table_of (λ answer events. refl) h.runs.0 h.runs.1 h.runs.2

-- what was put is the text
text_put : {command : Command} {input : List ℕ} {status : ℕ} {text : List ℕ} (h : HasRun command input status text) (put : List ℕ)
    → Appends h.output.before h.output.after put → text ≡ put
text_put {text = text} h put puts =
    append_cancel_left h.old text put (subst (λ b. Appends b (Some (h.old ++ text)) put) h.held (subst (λ a. Appends h.output.before a put) h.wrote puts))

-- a command that reads files
module _ (reasons : ReasonsAreOne Global) (lists : EventsAreOne Global) (command : Command) (reads : command ≢ FromCsv) (input : List ℕ) (are : IsBytes input)
  where
    read_alike : (status again : ℕ) (text other : List ℕ) → HasRun command input status text → HasRun command input again other
        → (status ≡ again) × (text ≡ other)
    read_alike status again text other h k =
        let p : HasWritten (command_texts command) input h.output status = run_written command input status text reads h in
        let q : HasWritten (command_texts command) input k.output again = run_written command input again other reads k in
        let one = one_written (command_texts command) input are reasons lists h.output k.output status again p q in
        let first = text_put h (command_texts command p.answer p.events) p.put in
        (one.0, first ∙ one.1 ∙ sym (text_put k (command_texts command q.answer q.events) q.put))

-- `from-csv`
text_alike : TextsHaveOneFinding → (input : List ℕ) (status again : ℕ) (text other : List ℕ) → HasRun FromCsv input status text
    → HasRun FromCsv input again other
    → (status ≡ again) × (text ≡ other)
text_alike law input status again text other h k =
    let p = made input h h.runs.0 h.runs.1 h.runs.2 h.runs.3 in
    let q = made input k k.runs.0 k.runs.1 k.runs.2 k.runs.3 in
    let one = made_alike law input h.output k.output status again p q in
    (one.0, text_put h p.bytes p.put ∙ one.1 ∙ sym (text_put k q.bytes q.put))

pub runs_are_one : ReasonsAreOne Global → EventsAreOne Global → TextsHaveOneFinding → RunsAreOne
runs_are_one reasons lists texts FromCsv input status again text other are h k = text_alike texts input status again text other h k
runs_are_one reasons lists texts command input status again text other are h k =
    read_alike reasons lists command (λ e. cc e) input are status again text other h k
