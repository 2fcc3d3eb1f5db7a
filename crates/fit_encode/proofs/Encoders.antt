-- What an encoder keeps from call to call.
use Rattle.fit_encode.proofs.Common.{◌≡◌, ℕ, ◌<◌, ◌≤◌, Bool, true, false, List, [], ◌∷◌, ◌++◌, length, take, Some, None, refl, sym, ap, ◌∙◌, subst}
use Rattle.fit_encode.proofs.Common.{append_assoc, append-nil, length-append, arith, OnErr, is_err, unwrap_or, option_map, Appends, take-append_seam, Little}
use Rattle.fit_encode.proofs.Common.{little_bytes, checksum, HeaderFits, header_bytes, Defined, MessageDef, ShapeFault, NoLocal, Record, Values, Define, Data}
use Rattle.fit_encode.proofs.Common.{Environment, empty_environment, learn, learn_all, defined_at, Fits, AllFit, record_bytes, records_bytes, data_header}
use Rattle.fit_encode.proofs.Common.{data_bytes, first_fault, EncodeFault, Write, Encoding, data_so_far, BreaksOff, HasPlace, IsWhole, IsPlaceFault, fault_when}
use Rattle.fit_encode.proofs.Common.{shape_fault, StopsAt, IfWrite, Written, bytes_in_order, Sending, Breaks, IsCounted, fresh, all_fit-append}
use Rattle.fit_encode.proofs.Common.{learn_all-append}
use Rattle.std.proofs.Common.{◌+◌, ◌^◌}
use Rattle.std.specs.Prelude.{Option, Result, Ok, Err}
use Rattle.fit_encode.specs.inner.Open.{IsOpenFile}
use Rattle.fit_encode.proofs.Sendings.{Breaks-from, StopsAt-as, stops_in}
use Rattle.fit_encode.proofs.RecordSteps.{records_bytes-last}

-- what holds of an encoder that no call closed
pub while_open : {P : Type 0} (finished : Bool) (failed : Option ℕ) {closed : Option EncodeFault} → (failed ≡ None → finished ≡ false → P)
    → closed ≡ fault_when finished failed → closed ≡ None → P
while_open false None h is none = h refl refl
while_open _ _ h is none = absurd (cc)

-- all data is there
pub all_there : {A : Type 0} {env : Environment A} {out : Sending} {declared size count : ℕ} {head : List ℕ} {records : List (Record A)}
    → IsOpenFile env out declared size count head records → declared ≤ size → length (records_bytes empty_environment records) ≡ declared
all_there h enough = omega arith

-- what holds where memory was refused
pub on_err_at : {T E : Type 0} (P : Type 0) (r : Result T E) → is_err r ≡ true → OnErr r P → P
on_err_at P (Ok x) bad h = absurd (let no : false ≡ true = bad in cc)
on_err_at P (Err e) good h = h

pub of_shape : {A : Type 0} (e : Environment A) (count declared size : ℕ) (r : Record A) (s : ShapeFault) → first_fault e r ≡ Some s
    → IsPlaceFault e count declared size r (shape_fault 1 count s)
of_shape e count declared size r NoLocal h = (refl, refl, h)
of_shape e count declared size r _ h = (refl, refl, h)

pub not_written : {A : Type 0} (e : Environment A) (count declared size : ℕ) (r : Record A) (fault : EncodeFault) (P : ℕ → Type 0)
    → IsPlaceFault e count declared size r fault → IfWrite fault P
not_written e count declared size r (Write written) P h = absurd h
not_written e count declared size r _ P h = tt

-- the byte order of a definition is that of its place
order_at_place : {A : Type 0} (p : Option (Defined A)) (d : Option (MessageDef A)) → d ≡ option_map (λ x. x.definition) p
    → unwrap_or (option_map (λ (x : MessageDef A). x.order) d) Little ≡ unwrap_or (option_map (λ (x : Defined A). x.definition.order) p) Little
order_at_place {A} None d e = ap (λ o. unwrap_or (option_map (λ (x : MessageDef A). x.order) o) Little) e
order_at_place {A} (Some p) d e = ap (λ o. unwrap_or (option_map (λ (x : MessageDef A). x.order) o) Little) e

pub in_order_of : {A : Type 0} (e : Environment A) (r : Record A) (v : Values A) (d : Option (MessageDef A)) → r ≡ Data v
    → d ≡ option_map (λ p. p.definition) (defined_at e v.local)
    → bytes_in_order (unwrap_or (option_map (λ (x : MessageDef A). x.order) d) Little) r ≡ record_bytes e r
in_order_of e r v d is defined = rw is (ap (λ o. data_header v.local v.offset ∷ data_bytes o v) (order_at_place (defined_at e v.local) d defined))

-- The sink failed in the middle of the bytes: how many of them went out, and how many bytes in all.
pub broke : {a b : Written} {s : Sending} {p : List ℕ} {w : ℕ} → s.held ≡ [] → s.count + length p < 2 ^ 64 → Breaks a b s p w
    → (sent : ℕ) × StopsAt a.held b.held b.failed p sent × (w ≡ s.count + sent)
broke {a} {b} {s} {p} {w} held fits broken =
    let all : broken.went ++ broken.rest ≡ p = broken.joined ∙ ap (λ (x : List ℕ). x ++ p) held in
    let parts = length-append broken.went broken.rest in
    let whole = ap length all in
    let there : w ≡ s.count + length broken.went = broken.total (omega arith) in (
      length broken.went,
      record {
        part = omega arith;
        first = subst (Appends a.held b.held) (sym (ap (take (length broken.went)) (sym all) ∙ take-append_seam broken.went broken.rest)) broken.appended;
        stopped = broken.stopped;
      },
      there,
    )

-- what holds of the code's own values holds of the records put so far
pub in_terms : {A : Type 0} (P : Environment A → ℕ → ℕ → Type 0) {env : Environment A} {out : Sending} {declared size count : ℕ} {head : List ℕ}
    {records : List (Record A)}
    → IsOpenFile env out declared size count head records → P env count size
    → P (learn_all empty_environment records) (length records) (length (records_bytes empty_environment records))
in_terms {A} P {env} {out} {declared} {size} {count} {head} {records} h here =
    subst (P (learn_all empty_environment records) (length records)) h.data_size
    (subst (λ (n : ℕ). P (learn_all empty_environment records) n size) h.place (subst (λ (e : Environment A). P e count size) h.known here))

-- the sink failed in the middle of some bytes that are still small
pub breaks_off : {A : Type 0} {a b : Written} {env : Environment A} {out : Sending} {declared size count w : ℕ} {head bytes : List ℕ}
    {records : List (Record A)}
    (failed : Option ℕ) (finished : Bool) → IsOpenFile env out declared size count head records → length bytes < 2 ^ 33 → Breaks a b out bytes w
    → BreaksOff a.held b.held b.failed (record { head = head; declared = declared; records = records; failed = failed; finished = finished })
    (record { head = head; declared = declared; records = records; failed = Some w; finished = finished }) bytes w
breaks_off {A} {a} {b} {env} {out} {declared} {size} {count} {w} {head} {bytes} {records} failed finished h less broken =
    let halves = length-append head (records_bytes {A = A} empty_environment records) in
    let there = broke h.held (omega arith) broken in
    record { sent = there.0; stops = there.1; total = there.2 ∙ ap (λ (n : ℕ). n + there.0) h.total; latched = refl }

-- a record that can be put is small
pub small_record : {A : Type 0} {env : Environment A} {out : Sending} {declared size count : ℕ} {head : List ℕ} {records : List (Record A)} {e : Environment A}
    {n : ℕ} {r : Record A}
    → IsOpenFile env out declared size count head records → HasPlace e declared n r → length (record_bytes e r) < 2 ^ 33
small_record h place = omega arith

-- the sink failed in the middle of the first bytes
pub first_broke : {a b : Written} {s : Sending} {bytes head : List ℕ} {w : ℕ} → s ≡ fresh 0 → bytes ≡ head → length bytes < 2 ^ 64 → Breaks a b s bytes w
    → StopsAt a.held b.held b.failed head w
first_broke new same short broken = StopsAt-as same (stops_in _ short (Breaks-from new broken))

-- nothing is held back, and all bytes so far went out
pub sent_so_far : {A : Type 0} {env : Environment A} {out : Sending} {declared size count : ℕ} {head : List ℕ} {records : List (Record A)}
    → IsOpenFile env out declared size count head records → out.sent ++ out.held ≡ head ++ records_bytes empty_environment records
sent_so_far {A} {env} {out} {declared} {size} {count} {head} {records} h =
    ap (λ (x : List ℕ). out.sent ++ x) h.held ∙ append-nil out.sent ∙ h.sent

pub some_byte : {A : Type 0} (e : Environment A) (r : Record A) → 0 < length (record_bytes e r)
some_byte e (Define d) = omega arith
some_byte e (Data v) = omega arith

-- with one record more
pub next_open : {A : Type 0} {env : Environment A} {out : Sending} {declared size count : ℕ} {head : List ℕ} {records : List (Record A)} (after : Environment A)
    (sent : Sending) (n : ℕ) (r : Record A)
    → IsOpenFile env out declared size count head records → Fits env r → n ≡ length (record_bytes env r) → size + n ≤ declared → after ≡ learn env r
    → sent.sent ≡ out.sent ++ record_bytes env r → sent.held ≡ [] → IsCounted out.count (length (record_bytes env r)) sent.count
    → IsOpenFile after sent declared (size + n) (count + 1) head (records ++ r ∷ [])
next_open {A} {env} {out} {declared} {size} {count} {head} {records} after sent n r h fits length_is within learned bytes none counted =
    let before = records_bytes {A = A} empty_environment records in
    let here : record_bytes env r ≡ record_bytes (learn_all empty_environment records) r = ap (λ (e : Environment A). record_bytes e r) h.known in
    let grown : records_bytes empty_environment (records ++ r ∷ []) ≡ before ++ record_bytes env r =
    records_bytes-last empty_environment records r ∙ ap (λ (x : List ℕ). before ++ x) (sym here) in
    let grown_length = ap length grown in
    let halves = length-append before (record_bytes env r) in
    let old_length = length-append head before in
    let new_length = length-append head (records_bytes empty_environment (records ++ r ∷ [])) in
    let some = some_byte env r in
    let more = length-append records (r ∷ []) in
    let counts : sent.count ≡ out.count + length (record_bytes env r) = counted (omega arith) in
    record {
      known = learned ∙ ap (λ (e : Environment A). learn e r) h.known ∙ sym (learn_all-append empty_environment records (r ∷ []));
      fit = all_fit-append empty_environment records (r ∷ []) h.fit (subst (λ (e : Environment A). Fits e r) h.known fits, tt);
      sent = bytes ∙ ap (λ (x : List ℕ). x ++ record_bytes env r) h.sent ∙ append_assoc head before (record_bytes env r)
          ∙ ap (λ (x : List ℕ). head ++ x) (sym grown);
      held = none;
      total = omega arith;
      data_size = omega arith;
      within = within;
      small = h.small;
      place = omega arith;
      few = omega arith;
      short = h.short;
    }

-- after the header
pub open_begun : {A : Type 0} (out : Sending) (declared : ℕ) (head : List ℕ) → out.sent ≡ [] ++ head → out.held ≡ [] → IsCounted 0 (length head) out.count
    → declared < 2 ^ 32
    → length head < 256 → IsOpenFile {A = A} empty_environment out declared 0 0 head []
open_begun out declared head sent none counted small short =
    let counts : out.count ≡ 0 + length head = counted (omega arith) in
    record {
      known = refl;
      fit = tt;
      sent = sent ∙ sym (append-nil head);
      held = none;
      total = (let same = ap length (append-nil head) in omega arith);
      data_size = refl;
      within = omega arith;
      small = small;
      place = refl;
      few = omega arith;
      short = short;
    }

-- all data is there: with the closing bytes it is the file
pub is_whole : {A : Type 0} (e : Encoding A) → AllFit empty_environment e.records → length (data_so_far e) ≡ e.declared → IsWhole e
is_whole e fit same h header =
    let declared = sym same in (
      record { header = subst (HeaderFits h) declared header.0; records = fit },
      ap (λ (x : List ℕ). (x ++ data_so_far e) ++ little_bytes 2 (checksum (x ++ data_so_far e))) (header.1 ∙ ap (header_bytes h) declared),
    )
