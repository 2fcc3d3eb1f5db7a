-- What an encoder has written of a ride.
use Rattle.fit_examples.proofs.Common.{◌≡◌, false, ℕ, ◌+◌, ◌<◌, List, [], ◌∷◌, ◌++◌, length, take, get_or, Option, Some, None, refl, sym, ap}
use Rattle.fit_examples.proofs.Common.{◌∙◌, subst, append_assoc, map, Global, map-append, take_more, HeaderFits, IsHeader, header_bytes, Record, Define}
use Rattle.fit_examples.proofs.Common.{empty_environment, record_bytes, IsFile, Encoding, IsWhole, bytes_so_far, closing_bytes, data_so_far, learned}
use Rattle.fit_examples.proofs.Common.{IsRecording, definition, ride_message, ride_records}
use Rattle.std.specs.Io.KnownBytes.{Appends}
use Rattle.fit_frame.specs.declared.header.Header.{Header}
use Rattle.fit_frame.specs.declared.header.HeaderSum.TheVariants.{True}
use Rattle.fit_encode.proofs.RecordSteps.{records_bytes-last}

-- after a header of these bytes, with these records
abbrev pub after_header : List ℕ → ℕ → List (Record Global) → Encoding Global
after_header head declared records = record { head = head; declared = declared; records = records; failed = None; finished = false }

-- the sink holds what the encoder has written
pub record Holds (head : List ℕ) (declared : ℕ) (records : List (Record Global)) (e : Encoding Global) (held : Option (List ℕ)) : Type 0 where
  pub is : e ≡ after_header head declared records
  pub sent : held ≡ Some (bytes_so_far e)

appended : (old new : Option (List ℕ)) (front bytes : List ℕ) → old ≡ Some front → Appends old new bytes → new ≡ Some (front ++ bytes)
appended (Some xs) (Some ys) front bytes is more = let one : xs ≡ front = cc in ap Some (more ∙ ap (λ x. x ++ bytes) one)
appended (Some xs) None front bytes is more = absurd more
appended None new front bytes is more = absurd cc

pub holds_more : (head : List ℕ) (declared : ℕ) (records : List (Record Global)) (e after : Encoding Global) (r : Record Global) (old new : Option (List ℕ))
    → Holds head declared records e old → after ≡ record e { records = e.records ++ r ∷ [] } → Appends old new (record_bytes (learned e) r)
    → Holds head declared (records ++ r ∷ []) after new
holds_more head declared records e after r old new h kept more = record {
  is = kept ∙ ap (λ (x : Encoding Global). record x { records = x.records ++ r ∷ [] }) h.is;
  sent =
      appended old new (bytes_so_far e) (record_bytes (learned e) r) h.sent more
      ∙ ap Some (append_assoc e.head (data_so_far e) (record_bytes (learned e) r)
      ∙ ap (λ x. e.head ++ x) (sym (records_bytes-last empty_environment e.records r))
      ∙ sym (ap bytes_so_far kept));
}

pub next_message : (points : List (ℕ × ℕ)) (i : ℕ) (d : ℕ × ℕ) → i < length points
    → ride_records (take i points) ++ ride_message (get_or points i d) ∷ [] ≡ ride_records (take (i + 1) points)
next_message points i d within =
    ap (λ rs. Define definition ∷ rs)
    (sym (map-append ride_message (take i points) (get_or points i d ∷ [])) ∙ ap (map ride_message) (sym (take_more points i d within)))

-- ---- answers

-- a good end
pub is_recording : (points : List (ℕ × ℕ)) (h : Header) (declared : ℕ) (e : Encoding Global) (old : Option (List ℕ)) (bytes : List ℕ) (new : Option (List ℕ))
    → (h.size ≡ 14) × (h.protocol ≡ 0x20) × (h.profile ≡ 0) × (h.sum ≡ True) → HeaderFits h declared
    → Holds (header_bytes h declared) declared (ride_records points) e old → IsWhole e → Appends old new (closing_bytes e) → Some bytes ≡ new
    → IsRecording points bytes
is_recording points h declared e old bytes new form good holds whole more is =
    let all : Some bytes ≡ Some (bytes_so_far e ++ closing_bytes e) = is ∙ appended old new (bytes_so_far e) (closing_bytes e) holds.sent more in
    let same : bytes ≡ bytes_so_far e ++ closing_bytes e = cc in
    let fits = subst (λ (x : Encoding Global). IsHeader h x.declared x.head) (sym holds.is) (good, refl) in
    record {
      file = record { header = h; records = e.records };
      size = form.0;
      protocol = form.1;
      profile = form.2;
      sum = form.3;
      records = ap (λ (x : Encoding Global). x.records) holds.is;
      spelled = subst (IsFile (record { header = h; records = e.records })) (sym same) (whole h fits);
    }
