-- What is told of events, one after another, is one JSON document.
use Rattle.fit_examples.proofs.Common.{◌≡◌, ◌∙◌, ℕ, List, [], ◌∷◌, ◌++◌, true, false, Ok, Err, reverse, refl, sym, ap, ap₂, subst, append_assoc}
use Rattle.fit_examples.proofs.Common.{append-nil, flat_map, Global, FitFile, Record, Event, file_end, file_events, header, item, hear, latest_records}
use Rattle.fit_examples.proofs.Noted.{chain_moments, moments_on, records_on}
use Rattle.std.specs.Prelude.{◌||◌, Bool, Result, codes}
use Rattle.std.specs.Io.KnownBytes.{Appends}
use Rattle.fit_chain.specs.declared.event.Event.{Event as Answer}
use Rattle.fit_chain.specs.declared.event.Event.TheVariants as answers
use Rattle.fit_chain.specs.declared.event.Fault.TheVariants as faults
use Rattle.fit_report.specs.Documents.{ReportsChainDocument, document_of}
use Rattle.fit_report.specs.Heard.{line_of, text_of}
use Rattle.fit_report.specs.Reports.{Channel}
use Rattle.fit_report.specs.declared.fault.ReportFault.{ReportFault}
use Rattle.fit_report.specs.declared.fault.ReportFault.TheVariants.{Decode, NoMemory, Write}
use Rattle.fit_examples.specs.declared.moments.Moment.{Moment}
use Rattle.fit_examples.specs.HeartRates.{file_moments, record_moments}
use Rattle.fit_examples.specs.Rates.{PutsRates, are_some, array_json, moments_heard, rate_json, rate_line, rates_end, rates_json}
use Rattle.fit_examples.specs.inner.Noting.{event_moments, records_after_event}

-- ---- more of an array

are_some-append : (a b : List Moment) → are_some (a ++ b) ≡ (are_some a || are_some b)
are_some-append [] b = refl
are_some-append (moment ∷ a) b = refl

some_json-append : (a b : List Moment) → rates_json true (a ++ b) ≡ rates_json true a ++ rates_json true b
some_json-append [] b = refl
some_json-append (m ∷ a) b =
    ap (λ t. codes "," ++ rate_json m ++ t) (some_json-append a b)
    ∙ ap (λ t. codes "," ++ t) (sym (append_assoc (rate_json m) (rates_json true a) (rates_json true b)))
    ∙ sym (append_assoc (codes ",") (rate_json m ++ rates_json true a) (rates_json true b))

rates_json-append : (a b : List Moment) → rates_json false (a ++ b) ≡ rates_json false a ++ rates_json (are_some a) b
rates_json-append [] b = refl
rates_json-append (m ∷ a) b =
    ap (λ t. codes "[" ++ rate_json m ++ t) (some_json-append a b)
    ∙ ap (λ t. codes "[" ++ t) (sym (append_assoc (rate_json m) (rates_json true a) (rates_json true b)))
    ∙ sym (append_assoc (codes "[") (rate_json m ++ rates_json true a) (rates_json true b))

text_heard : {A : Type 0} (heard : List (Event A)) → text_of rate_line heard ≡ rates_json false (moments_heard heard)
text_heard [] = refl
text_heard (header h n ∷ heard) = append-nil (text_of rate_line heard) ∙ text_heard heard
text_heard (item r ∷ heard) =
    let line = rates_json (are_some (moments_heard heard)) (record_moments (latest_records heard) r) in
    ap (λ t. t ++ line) (text_heard heard) ∙ sym (rates_json-append (moments_heard heard) (record_moments (latest_records heard) r))
text_heard (file_end ∷ heard) = append-nil (text_of rate_line heard) ∙ text_heard heard

-- the document of a chain
pub chain_document : {A : Type 0} (fs : List (FitFile A))
    → document_of rate_line rates_end (reverse (flat_map file_events fs)) ≡ array_json (flat_map file_moments fs)
chain_document fs =
    let heard = reverse (flat_map file_events fs) in
    ap (λ t. t ++ rates_end heard) (text_heard heard) ∙ ap array_json (chain_moments fs)

-- ---- one event

pub line_told : {A : Type 0} (heard : List (Event A)) (event : Answer A)
    → line_of rate_line heard event ≡ rates_json (are_some (moments_heard heard)) (event_moments (latest_records heard) event)
line_told heard answers.More = refl
line_told heard (answers.Header h n) = refl
line_told heard (answers.Item r) = refl
line_told heard answers.FileEnd = refl

pub some_told : {A : Type 0} (heard : List (Event A)) (event : Answer A)
    → (are_some (moments_heard heard) || are_some (event_moments (latest_records heard) event)) ≡ are_some (moments_heard (hear event heard))
some_told heard event =
    sym (are_some-append (moments_heard heard) (event_moments (latest_records heard) event)) ∙ ap are_some (moments_on heard event)

-- What the reporter keeps and puts, where its moments are those of the event.
module _ (stream : List (Record Global)) (some : Bool) (heard : List (Event Global)) (event : Answer Global) (moments : List Moment)
    (records : stream ≡ latest_records heard) (any : some ≡ are_some (moments_heard heard)) (are : moments ≡ event_moments stream event) where
  own : moments ≡ event_moments (latest_records heard) event
  own = are ∙ ap (λ before. event_moments before event) records

  pub next_stream : (next : List (Record Global)) → next ≡ records_after_event stream event → next ≡ latest_records (hear event heard)
  next_stream next is = is ∙ ap (λ before. records_after_event before event) records ∙ records_on heard event

  pub next_some : (now : Bool) → now ≡ (some || are_some moments) → now ≡ are_some (moments_heard (hear event heard))
  next_some now is = is ∙ ap₂ (λ a b. a || are_some b) any own ∙ some_told heard event

  pub next_line : (old new : List ℕ) → new ≡ old ++ rates_json some moments → new ≡ old ++ line_of rate_line heard event
  next_line old new is = is ∙ ap (λ t. old ++ t) (ap₂ rates_json any own ∙ sym (line_told heard event))

-- ---- the document

pub puts_rates : (fs : List (FitFile Global)) (source sink : Channel) (result : Result (Unit {0}) ReportFault)
    → ReportsChainDocument rate_line rates_end fs source sink result → PutsRates (flat_map file_moments fs) source sink result
puts_rates fs source sink (Ok x) put = subst (Appends sink.before sink.after) (chain_document fs) put
puts_rates fs source sink (Err (Decode (faults.Read place))) bad = bad
puts_rates fs source sink (Err (Decode (faults.Refused place reason))) none = none
puts_rates fs source sink (Err (Decode (faults.Truncated place))) none = none
puts_rates fs source sink (Err (Decode (faults.NoMemory used))) none = none
puts_rates fs source sink (Err NoMemory) good = good
puts_rates fs source sink (Err (Write count)) bad = bad
