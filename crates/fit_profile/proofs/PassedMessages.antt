-- Data messages that are taken in without a look at their fields: of which nothing is told, or nothing but a time.
use Rattle.fit_profile.proofs.Common.{◌≡◌, ◌∙◌, ℕ, List, [], ◌∷◌, length, false, refl, sym, ap, Option, Some, None, IsSomeAnd, unwrap_or}
use Rattle.fit_profile.proofs.Common.{Defined, Environment, Record, Values, defined_at, described_by, last_after, option_and_then, tell}
use Rattle.std.specs.Global.{Global}
use Rattle.std.specs.Prelude.{Bool, IfSome, option_map}
use Rattle.fit_base.specs.Numbers.{IsBytes}
use Rattle.fit_record.specs.Faults.{or_else}
use Rattle.fit_record.specs.HeaderByte.{local_type}
use Rattle.fit_record.specs.Records.{DataFits, IsRecord, message_size, order_at}
use Rattle.fit_record.proofs.DataHeaders.{message_first}
use Rattle.fit_record.proofs.FoundMessages.{data_read, data_record}
use Rattle.fit_record.proofs.OneRecord.{one_record}
use Rattle.fit_record.proofs.RecordLengths.{length-data}
use Rattle.fit_record.specs.declared.message.Record.TheVariants.{Values as Data}
use Rattle.fit_profile.specs.Accumulated.{tells_more}
use Rattle.fit_profile.specs.Times.{field_time, header_time, time_in_field, time_of}
use Rattle.fit_profile.specs.declared.told.Last.{Last}
use Rattle.fit_profile.specs.inner.Plans.{IsSilent}
use Rattle.fit_profile.proofs.NoCounters.{describes-nothing, only-time, parts, tells}

-- ---- the message that bytes are

abbrev nothing : Values Global
nothing = record { local = 0; offset = None; fields = []; dev = [] }

abbrev pub message_read : Environment Global → List ℕ → Record Global
message_read e [] = Data nothing
message_read e (b ∷ rest) = Data (unwrap_or (option_map (λ p. data_read p b rest) (defined_at e (local_type b))) nothing)

pub message_is_read : (e : Environment Global) (bytes : List ℕ) (v : Values Global) → IsBytes bytes → IsRecord e (Data v) bytes
    → message_read e bytes ≡ Data v
message_is_read e [] v are is = absurd cc
message_is_read e (b ∷ rest) v are is =
    let m = message_first e v b rest is.0 (sym is.1) in
    let here : defined_at e (local_type b) ≡ Some m.place = ap (defined_at e) m.bits.type ∙ m.known in
    let long : length rest ≡ message_size m.place = ap length (sym m.tail) ∙ length-data (order_at e v.local) v m.place m.fits in
    let read = data_record e m.place b rest are m.bits.clean m.bits.kind here long in
    ap (λ o. Data (unwrap_or (option_map (λ p. data_read p b rest) o) nothing)) here
    ∙ (one_record e (Data (data_read m.place b rest)) (Data v) (b ∷ rest) (b ∷ rest) [] [] read is refl).0

-- ---- a silent message without a time offset

pub silent_last : (e : Environment Global) (last : Last) (v : Values Global) (o : Option (Defined Global)) → defined_at e v.local ≡ o → v.offset ≡ None
    → IsSomeAnd o (λ p. IsSilent p.definition) → last ≡ last_after last (tell e last (Data v))
silent_last e last v None here plain silent = absurd silent
silent_last e last v (Some p) here plain silent =
    let d = p.definition in
    let timeless : field_time d v ≡ None = ap (option_and_then (λ f. time_in_field f.0 f.1)) (silent.timeless v.fields) in
    let none : or_else (field_time d v) (header_time last.time v.offset) ≡ None = rw (timeless, plain) refl in
    sym (ap (λ t. record last { time = or_else t last.time }) none) ∙ only-time last d v (rw silent.other refl)
    ∙ sym (ap (last_after last) (tells e p last v here))

pub silent_nothing : (e : Environment Global) (v : Values Global) (o : Option (Defined Global)) → defined_at e v.local ≡ o
    → IsSomeAnd o (λ p. IsSilent p.definition) → described_by e v ≡ None
silent_nothing e v None here silent = absurd silent
silent_nothing e v (Some p) here silent = describes-nothing e p v here silent.plain

-- ---- a message that tells times alone

-- it does where what it tells says no more
pub alone_as_told : (o : Option (Defined Global)) (v : Values Global) (more : Bool) → IsSomeAnd o (DataFits v)
    → IfSome o (λ p. more ≡ tells_more p.definition) → more ≡ false → IsSomeAnd o (λ p. tells_more p.definition ≡ false)
alone_as_told None v more fits is none = absurd fits
alone_as_told (Some p) v more fits is none = sym is ∙ none

pub timed_last : (e : Environment Global) (last : Last) (v : Values Global) (o : Option (Defined Global)) (time : Option ℕ) → defined_at e v.local ≡ o
    → IsSomeAnd o (λ p. tells_more p.definition ≡ false) → time ≡ time_of e last.time (Data v)
    → record last { time = or_else time last.time } ≡ last_after last (tell e last (Data v))
timed_last e last v None time here alone is = absurd alone
timed_last e last v (Some p) time here alone is =
    let d = p.definition in
    let own : time ≡ or_else (field_time d v) (header_time last.time v.offset) = is ∙ rw here refl in
    ap (λ t. record last { time = or_else t last.time }) own ∙ only-time last d v (parts d alone).1
    ∙ sym (ap (last_after last) (tells e p last v here))

pub timed_nothing : (e : Environment Global) (v : Values Global) (o : Option (Defined Global)) → defined_at e v.local ≡ o
    → IsSomeAnd o (λ p. tells_more p.definition ≡ false) → described_by e v ≡ None
timed_nothing e v None here alone = absurd alone
timed_nothing e v (Some p) here alone = describes-nothing e p v here (parts p.definition alone).0
