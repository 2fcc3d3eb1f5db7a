-- What the bytes used of a piece leave in the fields: they are those after the bytes fed, and what was told is what these tell.
use Rattle.fit_decode.proofs.Common.{◌≡◌, cond, ◌⊎◌, inl, inr, ℕ, ◌-◌, ◌<◌, ◌≤◌, false, List, [], ◌∷◌, ◌++◌, length, take, slice_index, refl}
use Rattle.fit_decode.proofs.Common.{sym, ap, ◌∙◌, subst, arith, append_assoc, None, Ok, Err, append-nil, IsBytes, IsBytes-append}
use Rattle.fit_decode.proofs.Common.{IsBytes-take, checksum, FileHeader, header_bytes, IsFileHeader, RefusesByte, FitFile, Record, Environment}
use Rattle.fit_decode.proofs.Common.{empty_environment, learn, learn_all, IsRecord, record_bytes, records_bytes, CanFill, chain_limit, IsViable}
use Rattle.fit_decode.proofs.Common.{records_bytes-append, learn_all-append, Position, Stop, FillFrom, IsInProgress, begins_record, fill_nothing, Stage}
use Rattle.fit_decode.proofs.Common.{idle_between_records, record_fills, records_in_progress, Answer, Data, ClosingSum, at_header, at_data, HasCome}
use Rattle.fit_decode.proofs.Common.{AreEvents, IsRefused, files_begun, ChainGoesOn, IsHeaderPart, half_sum, section_of, HeaderFed, DataFed, Fields}
use Rattle.fit_decode.proofs.Common.{InHeader, InData, Holds, HoldsAt, NextAnswer, goes_viable, fill_data, whole_header, quiet_of, begun_header}
use Rattle.fit_decode.proofs.Common.{InRecords, data_starts, data_quiet, data_come, data_viable, left_after, item_come, item_least, data_refuses, data_wants}
use Rattle.fit_decode.proofs.Common.{data_takes, refusal_of, ◌==◌, true}
use Rattle.std.proofs.Common.{Bool}
use Rattle.std.specs.Prelude.{Option, Result}
use Rattle.std.proofs.lemmas.Bool.Decides.{eqb_tells}
use Rattle.fit_frame.specs.Beginning.{Seen}
use Rattle.fit_step.specs.declared.stop.Stop.TheVariants.{Refused, NoMemory}
use Rattle.fit_decode.specs.declared.section.Section.TheVariants.{Header}
use Rattle.fit_frame.specs.declared.reason.Reason.TheVariants.{TooManyFiles}
use Rattle.fit_chain.proofs.HeaderFed.{header_fronts, header_quiet, header_least, header_refuses, full_refuses}
use Rattle.fit_chain.specs.declared.event.Event.TheVariants as answers
use Rattle.fit_decode.specs.declared.section.Part.{Part}
use Rattle.fit_decode.specs.declared.section.Part.TheVariants as parts
use Rattle.fit_decode.specs.inner.Sections.{as_event, header_of}

-- ---- where records begin

fresh_section : (over : Bool) → refusal_of (cond over ClosingSum Data) ≡ None
fresh_section true = refl
fresh_section false = refl

-- after a header or a record the next byte is awaited
after_part : (was now : Stage) (room : ℕ) → now ≡ record was { section = section_of room } → refusal_of now.section ≡ None
after_part was now room goes_on = ap (λ (s : Stage). refusal_of s.section) goes_on ∙ fresh_section (room == 0)

-- within a section it is too
pub in_section : (was now : Stage) → now.section ≡ was.section → refusal_of was.section ≡ None → refusal_of now.section ≡ None
in_section was now stays fresh = ap refusal_of stays ∙ fresh

pub begins_records : {A : Type 0} (files : List (FitFile A)) (d : Fields A) (bytes : List ℕ) (h : FileHeader) (n : ℕ) (records : List (Record A))
    → HasCome files (at_data h n records []) bytes
    → length files < chain_limit → d.stage.files ≡ length files → d.stage.half ≡ false → d.reader ≡ record { bytes = []; refusal = None }
    → d.sum ≡ header_bytes h n ++ records_bytes empty_environment records
    → d.env ≡ learn_all empty_environment records → IsInProgress d.env (n - length (records_bytes empty_environment records)) [] d.position d.in_progress
    → HoldsAt (section_of (n - length (records_bytes empty_environment records))) d bytes
begins_records files d bytes h n records come few counted whole fresh sum known here =
    let room = n - length (records_bytes empty_environment records) in
    let no_part : half_sum (checksum d.sum) d.stage.half ≡ [] = ap (λ c. half_sum (checksum d.sum) c) whole in
    elim (eqb_tells room 0) [
      | inl none ↦ subst (λ c. HoldsAt (cond c ClosingSum Data) d bytes) (sym none.0) (record {
        files = files;
        header = h;
        size = n;
        records = records;
        come = subst (λ p. HasCome files (at_data h n records p) bytes) (sym no_part) come;
        few = few;
        counted = counted;
        fresh = fresh;
        summed = sum;
        known = known;
        over = none.1;
        idle = (idle_between_records d.env room [] d.position d.in_progress here).1 refl;
      })
      | inr some ↦ subst (λ c. HoldsAt (cond c ClosingSum Data) d bytes) (sym some.0) (record {
        files = files;
        header = h;
        size = n;
        records = records;
        part = [];
        come = come;
        few = few;
        counted = counted;
        whole = whole;
        fresh = fresh;
        summed = sum ∙ sym (append-nil (header_bytes h n ++ records_bytes empty_environment records));
        known = known;
        some = omega (arith, some.1);
        in_record = here;
      })
    ]

-- ---- headers

module _ {A : Type 0} (d : Fields A) (at : d.stage.section ≡ Header) (bytes piece : List ℕ) (k : InHeader d bytes) (are : IsBytes bytes)
    (low : IsBytes piece) where
  front_is : d.reader.bytes ≡ d.sum
  front_is = ap (λ (s : Seen). s.bytes) k.read

  begun_within : (front : List ℕ) → d.stage.files < chain_limit → files_begun k.files (at_header front) ≤ chain_limit
  begun_within [] few = omega (arith, few, k.counted)
  begun_within (b ∷ front) few = omega (arith, few, k.counted)

  within_limit : (used : ℕ) → (d.stage.files < chain_limit) ⊎ (piece ≡ []) → used ≡ length piece
      → files_begun k.files (at_header (d.sum ++ take used piece)) ≤ chain_limit
  within_limit used (inl few) all = begun_within (d.sum ++ take used piece) few
  within_limit used (inr none) all =
      let silent : take used piece ≡ [] = ap (λ n. take n piece) (all ∙ ap length none) in
      subst (λ l. files_begun k.files (at_header l) ≤ chain_limit) (sym (append-nil d.sum) ∙ ap (λ l. d.sum ++ l) (sym silent)) k.goes.1

  at_most : (front : List ℕ) → files_begun k.files (at_header front) ≤ chain_limit → length k.files ≤ chain_limit
  at_most [] begun = begun
  at_most (b ∷ front) begun = omega (arith, begun)

  no_front : (front : List ℕ) → files_begun k.files (at_header front) ≤ chain_limit → length k.files ≡ chain_limit → front ≡ []
  no_front [] begun all = refl
  no_front (b ∷ front) begun all = absurd (omega (arith, begun, all))

  pub header_fed : (stage : Stage) (reader : Seen) (position : Position) (sum : List ℕ) (head : Option FileHeader) (used : ℕ) (answer : Result Part Stop)
      → HeaderFed d.stage d.reader.bytes d.sum stage reader position sum head piece used answer
      → NextAnswer (record d { stage = stage; reader = reader; sum = sum; position = position }) bytes piece used (as_event d.in_progress head answer)
  header_fed stage reader position sum head used (Ok parts.More) (lim, (all, read, begun), covered, same) =
      let open_ : IsHeaderPart (d.sum ++ take used piece) = subst (λ l. IsHeaderPart (l ++ take used piece)) front_is begun in
      let within : used ≤ length piece = omega (arith, all) in
      let none = begun_header (d.sum ++ take used piece) open_.0 open_.1 in
      let come = header_fronts k.files d.sum bytes piece k.come used within none used (omega arith) in
      let goes : ChainGoesOn chain_limit k.files (at_header (d.sum ++ take used piece)) = (k.goes.0, within_limit used lim all, open_.0) in
      record {
        told = (all, header_quiet k.files d.sum bytes piece k.come used within none);
        viable = goes_viable chain_limit k.files (at_header (d.sum ++ take used piece)) (bytes ++ take used piece) come
            (IsBytes-append bytes (take used piece) are (IsBytes-take used piece low)) goes;
        holds = λ _. subst (λ s. Holds (record d { stage = s; reader = reader; sum = sum; position = position }) (bytes ++ take used piece)) (sym same)
            (subst (λ c. HoldsAt c (record d { reader = reader; sum = sum; position = position }) (bytes ++ take used piece)) (sym at) (record {
              files = k.files;
              come = subst (λ l. HasCome k.files (at_header l) (bytes ++ take used piece)) (sym covered) come;
              goes = subst (λ l. ChainGoesOn chain_limit k.files (at_header l)) (sym covered) goes;
              counted = k.counted;
              whole = k.whole;
              read = read ∙ ap (λ l. record { bytes = l; refusal = None }) (ap (λ l. l ++ take used piece) front_is ∙ sym covered);
              known = k.known;
              idle = k.idle;
            }));
        fresh = λ _. in_section d.stage stage (ap (λ (s : Stage). s.section) same) (ap refusal_of at);
      }
  header_fed stage reader position sum head used (Ok (parts.Header n)) (h, stands, few, some, within, whole, fresh, covered, goes_on, begins, room) =
      let is : IsFileHeader h n (d.sum ++ take used piece) = subst (λ l. IsFileHeader h n (l ++ take used piece)) front_is whole in
      let less : length k.files < chain_limit = omega (arith, few, k.counted) in
      let come = whole_header k.files d.sum bytes (take used piece) h n k.come is in
      let same : n ≡ n - 0 = omega arith in
      let filled : CanFill {A = A} empty_environment (n - 0) = subst (CanFill {A = A} empty_environment) same (fill_data n is.1) in
      let fill : CanFill {A = A} empty_environment position.room = subst (CanFill {A = A} empty_environment) (sym room) (fill_data n is.1) in
      let now : Fields A = record d { stage = record d.stage { section = section_of n }; reader = reader; sum = sum; position = position } in
      let begun : IsInProgress {A = A} empty_environment (n - 0) [] position None =
      subst (λ m. IsInProgress {A = A} empty_environment m [] position None) (room ∙ same) (begins_record empty_environment position refl begins fill) in
      let here : IsInProgress d.env (n - 0) [] position d.in_progress =
      subst (λ e. IsInProgress e (n - 0) [] position d.in_progress) (sym k.known)
      (subst (λ o. IsInProgress empty_environment (n - 0) [] position o) (sym k.idle) begun) in
      let all : sum ≡ header_bytes h n ++ [] = covered ∙ is.0.1 ∙ sym (append-nil (header_bytes h n)) in
      subst (λ (o : Option FileHeader). NextAnswer (record d { stage = stage; reader = reader; sum = sum; position = position }) bytes piece used
      (Ok (header_of o n))) (sym stands) (record {
        told = (some, within, header_least k.files d.sum bytes piece k.come used h n within is);
        viable = goes_viable chain_limit k.files (at_data h n [] []) (bytes ++ take used piece) come
            (IsBytes-append bytes (take used piece) are (IsBytes-take used piece low))
            (k.goes.0, omega (arith, less), data_starts empty_environment (n - 0) _ (fill_nothing empty_environment (n - 0) filled));
        holds = λ _. subst (λ s. Holds (record d { stage = s; reader = reader; sum = sum; position = position }) (bytes ++ take used piece)) (sym goes_on)
            (subst (λ m. HoldsAt (section_of m) now (bytes ++ take used piece)) (sym same)
            (begins_records k.files now (bytes ++ take used piece) h n [] come less k.counted k.whole fresh all k.known here));
        fresh = λ _. after_part d.stage stage n goes_on;
      })
  header_fed stage reader position sum head used (Err (Refused reason)) (inl (full, some, none, is)) =
      let all : length k.files ≡ chain_limit = omega (arith, full, k.counted, at_most (d.sum) k.goes.1) in
      let empty : d.sum ≡ [] = no_front d.sum k.goes.1 all in
      let viable = goes_viable chain_limit k.files (at_header d.sum) bytes k.come are k.goes in
      let here : bytes ≡ bytes ++ take used piece = sym (ap (λ n. bytes ++ take n piece) none ∙ append-nil bytes) in
      let why = full_refuses k.files d.sum bytes piece k.come (slice_index piece used) empty all viable in
      record {
        told = (
          omega (arith, some, none),
          quiet_of bytes piece used k.files (at_header d.sum) k.come (λ events are_told j less. subst (λ l. AreEvents l events)
              (sym (ap (λ n. bytes ++ take n piece) (let zero_only : j ≡ 0 = omega (arith, less, none) in zero_only) ∙ append-nil bytes)) are_told),
          subst (λ r. IsRefused A chain_limit (bytes ++ take used piece) (slice_index piece used) r) (sym is)
              (subst (λ l. IsRefused A chain_limit l (slice_index piece used) TooManyFiles) here why),
        );
        viable = subst (IsViable A chain_limit) here viable;
        holds = λ never. absurd never;
        fresh = λ never. absurd never;
      }
  header_fed stage reader position sum head used (Err (Refused reason)) (inr (few, within, begun, refuses)) =
      let open_ : IsHeaderPart (d.sum ++ take used piece) = subst (λ l. IsHeaderPart (l ++ take used piece)) front_is begun in
      let less : length k.files < chain_limit = omega (arith, few, k.counted) in
      let none = begun_header (d.sum ++ take used piece) open_.0 open_.1 in
      let why = header_refuses k.files d.sum bytes piece k.come used reason within less
      (IsBytes-append bytes (take used piece) are (IsBytes-take used piece low)) open_
      (subst (λ l. RefusesByte (l ++ take used piece) (slice_index piece used) reason) front_is refuses) in
      record {
        told = (within, header_quiet k.files d.sum bytes piece k.come used (omega (arith, within)) none, why);
        viable = why.viable;
        holds = λ never. absurd never;
        fresh = λ never. absurd never;
      }
  header_fed stage reader position sum head used answer fed = absurd fed

-- ---- data sections

module _ {A : Type 0} (d : Fields A) (at : d.stage.section ≡ Data) (bytes piece : List ℕ) (k : InData d bytes) (are : IsBytes bytes)
    (low : IsBytes piece) where
  abbrev taken : ℕ
  taken = length (records_bytes empty_environment k.records)

  abbrev here_in : InRecords A bytes
  here_in = record {
    files = k.files;
    header = k.header;
    size = k.size;
    records = k.records;
    part = k.part;
    come = k.come;
    few = k.few;
    some = k.some;
  }

  abbrev known : Environment A
  known = learn_all empty_environment k.records

  abbrev room : ℕ
  room = k.size - taken

  covered_is : (used : ℕ) → d.sum ++ take used piece
      ≡ (header_bytes k.header k.size ++ records_bytes empty_environment k.records) ++ (k.part ++ take used piece)
  covered_is used = ap (λ l. l ++ take used piece) k.summed
      ∙ append_assoc (header_bytes k.header k.size ++ records_bytes empty_environment k.records) k.part (take used piece)

  module _ (stage : Stage) (env : Environment A) (position : Position) (in_progress : Option (Record A)) (sum : List ℕ) (used : ℕ) where
    abbrev now : Stage → Fields A
    now s = record d { stage = s; env = env; position = position; in_progress = in_progress; sum = sum }

    -- bytes that end within a record
    within_record : sum ≡ d.sum ++ take used piece → used ≤ length piece → env ≡ known
        → IsInProgress known room (k.part ++ take used piece) position in_progress → stage ≡ d.stage
        → Holds (now stage) (bytes ++ take used piece)
    within_record covered within same here stays =
        let none = (records_in_progress known room (k.part ++ take used piece) position in_progress here).0 in
        subst (λ s. Holds (now s) (bytes ++ take used piece)) (sym stays)
        (subst (λ c. HoldsAt c (now d.stage) (bytes ++ take used piece)) (sym at) (record {
          files = k.files;
          header = k.header;
          size = k.size;
          records = k.records;
          part = k.part ++ take used piece;
          come = data_come bytes piece here_in are low used within none;
          few = k.few;
          counted = k.counted;
          whole = k.whole;
          fresh = k.fresh;
          summed = covered ∙ covered_is used;
          known = same;
          some = k.some;
          in_record = subst (λ e. IsInProgress e room (k.part ++ take used piece) position in_progress) (sym same) here;
        }))

    -- bytes that end with a record
    after_record : sum ≡ d.sum ++ take used piece → (r : Record A) → used ≤ length piece → env ≡ learn known r → IsRecord known r (k.part ++ take used piece)
        → length (k.part ++ take used piece) ≤ room → IsInProgress env (room - length (k.part ++ take used piece)) [] position in_progress
        → stage ≡ record d.stage { section = section_of position.room } → Holds (now stage) (bytes ++ take used piece)
    after_record covered r within same is fits here goes_on =
        let next : Stage = record d.stage { section = section_of position.room } in
        let come = item_come bytes piece here_in are low used r within is fits in
        let left = left_after bytes piece here_in are low used r within is fits in
        let all : records_bytes empty_environment (k.records ++ r ∷ []) ≡ records_bytes empty_environment k.records ++ (k.part ++ take used piece) =
        records_bytes-append empty_environment k.records (r ∷ [])
        ∙ ap (λ l. records_bytes empty_environment k.records ++ l) (append-nil (record_bytes known r) ∙ sym is.1) in
        let sums : sum ≡ header_bytes k.header k.size ++ records_bytes empty_environment (k.records ++ r ∷ []) =
        covered ∙ covered_is used ∙ append_assoc (header_bytes k.header k.size) (records_bytes empty_environment k.records) (k.part ++ take used piece)
        ∙ ap (λ l. header_bytes k.header k.size ++ l) (sym all) in
        let room_is : position.room ≡ k.size - length (records_bytes empty_environment (k.records ++ r ∷ [])) =
        (let total = (records_in_progress env (room - length (k.part ++ take used piece)) [] position in_progress here).2 in omega (arith, total, left)) in
        subst (λ s. Holds (now s) (bytes ++ take used piece)) (sym goes_on)
        (subst (λ m. HoldsAt (section_of m) (now next) (bytes ++ take used piece)) (sym room_is)
        (begins_records k.files (now next) (bytes ++ take used piece) k.header k.size (k.records ++ r ∷ []) come k.few k.counted k.whole k.fresh sums
        (same ∙ sym (learn_all-append empty_environment k.records (r ∷ []))) (subst (λ m. IsInProgress env m [] position in_progress) left here)))

    pub data_fed : (answer : Result (Answer A) Stop) → DataFed d.stage d.env d.position d.in_progress d.sum stage env position in_progress sum piece used answer
        → NextAnswer (now stage) bytes piece used answer
    data_fed answer fed =
        told_of answer (subst (λ e. DataFed d.stage e d.position d.in_progress d.sum stage env position in_progress sum piece used answer) k.known fed)
      where
        before : IsInProgress known room k.part d.position d.in_progress
        before = subst (λ e. IsInProgress e room k.part d.position d.in_progress) k.known k.in_record

        told_of : (answer : Result (Answer A) Stop) → DataFed d.stage known d.position d.in_progress d.sum stage env position in_progress sum piece used answer
            → NextAnswer (now stage) bytes piece used answer
        told_of (Ok answers.More) (reads, covered, goes_on) =
            let (all, same, here) = reads room k.part before in
            let within : used ≤ length piece = omega (arith, all) in
            let goes = records_in_progress known room (k.part ++ take used piece) position in_progress here in
            record {
              told = (all, data_quiet bytes piece here_in are low used within goes.0);
              viable = data_viable bytes piece here_in are low used goes.1;
              holds = λ _. within_record covered within same here goes_on;
              fresh = λ _. in_section d.stage stage (ap (λ (s : Stage). s.section) goes_on) (ap refusal_of at);
            }
        told_of (Ok (answers.Item r)) (reads, covered, goes_on) =
            let (some, within, same, is, fits, here) = reads room k.part before in
            let left = room - length (k.part ++ take used piece) in
            let goes : FillFrom (learn known r) left [] =
            subst (λ e. FillFrom e left []) same (records_in_progress env left [] position in_progress here).1 in
            record {
              told = (some, within, item_least bytes piece here_in are low used r within is fits);
              viable = data_viable bytes piece here_in are low used (record_fills known room r (k.part ++ take used piece) is fits goes);
              holds = λ _. after_record covered r within same is fits here goes_on;
              fresh = λ _. after_part d.stage stage position.room goes_on;
            }
        told_of (Err (Refused reason)) (reads, covered, goes_on) =
            let (within, same, here, because, ends) = reads room k.part before in
            let upto : used ≤ length piece = omega (arith, within) in
            let goes = records_in_progress known room (k.part ++ take used piece) position in_progress here in
            let why = data_refuses bytes piece here_in are low used reason within goes.0 goes.1 because ends in
            record {
              told = (within, data_quiet bytes piece here_in are low used upto goes.0, why);
              viable = why.viable;
              holds = λ never. absurd never;
              fresh = λ never. absurd never;
            }
        told_of (Err NoMemory) (reads, covered, goes_on) =
            let (within, same, here, fill, heads) = reads room k.part before in
            let upto : used ≤ length piece = omega (arith, within) in
            let goes = records_in_progress known room (k.part ++ take used piece) position in_progress here in
            record {
              told = (
                within,
                data_quiet bytes piece here_in are low used upto goes.0,
                data_wants bytes piece here_in are low used within fill,
                data_takes bytes piece here_in are low used upto goes.0 heads,
              );
              viable = data_viable bytes piece here_in are low used goes.1;
              holds = λ _. within_record covered upto same here goes_on;
              fresh = λ _. in_section d.stage stage (ap (λ (s : Stage). s.section) goes_on) (ap refusal_of at);
            }
        told_of answer fed = absurd fed
