-- How many bytes records, files and chains have.
use Rattle.fit_encode.proofs.Common.{◌≡◌, ℕ, ◌*◌, ◌<◌, ◌≤◌, List, [], ◌∷◌, ◌++◌, length, ◌∙◌, length-append, arith, AllByRecursion}
use Rattle.fit_encode.proofs.Common.{Order, little_bytes, length-little_bytes, checksum, Header, HeaderFits, header_bytes, FitFile}
use Rattle.fit_encode.proofs.Common.{Record, Define, Data, Environment, record_bytes, order_at, IsWellFormed, body, summed, file_bytes, chain_bytes}
use Rattle.fit_encode.proofs.Common.{chain_limit, sym, ap, subst, Some, None, option_map, IsSomeAnd, MessageDef, Defined, Values, DataFits}
use Rattle.fit_encode.proofs.Common.{data_bytes, defined_at, Fits, unwrap_or, IsSpellable, bytes_in_order, take, drop, get_or, records_bytes, AllFit}
use Rattle.fit_encode.proofs.Common.{learn, learn_all, empty_environment, size_in}
use Rattle.fit_record.specs.Records.{message_size}
use Rattle.std.proofs.Common.{◌^◌}
use Rattle.std.specs.Prelude.{Option, ◌+◌}
use Rattle.fit_record.specs.DefinitionLengths.{definition_length, dev_length}
use Rattle.fit_record.specs.Environment.{dev_defs}
use Rattle.fit_record.specs.declared.definition.DevDef.{DevDef}
use Rattle.fit_record.proofs.RecordLengths.{length-definition, length-data}
use Rattle.fit_encode.proofs.Orders.{AreSizes, in_size}
use Rattle.fit_encode.proofs.RecordSteps.{next_bytes}
use Rattle.fit_encode.proofs.Spellable.{fits_at, record_parts}
use Rattle.fit_frame.proofs.OneHeader.{length-header_bytes}

-- ---- a record that fits

dev_short : (dev : Option (List DevDef)) → length (dev_defs dev) < 256 → dev_length dev < 1000
dev_short None h = omega arith
dev_short (Some fields) h = omega arith

pub definition_size : {A : Type 0} (e : Environment A) (r : Record A) (d : MessageDef A) (n : ℕ) → r ≡ Define d → n ≡ definition_length d
    → n ≡ length (record_bytes e r)
definition_size {A} e r d n is size = subst (λ (x : Record A). n ≡ length (record_bytes e x)) (sym is) (size ∙ sym (length-definition d))

-- A definition message is short.
pub no_long_definition : {A : Type 0} (o : Order) (r : Record A) (d : MessageDef A) (n : ℕ) → r ≡ Define d → IsSpellable r
    → n ≡ length (bytes_in_order o r) → 4088 < n → ⊥
no_long_definition {A} o r d n is =
    let here : IsSpellable (Define d) → n ≡ length (bytes_in_order o (Define d)) → 4088 < n → ⊥ =
    λ fits size long. omega (arith, size, length-definition d, fits.fields, dev_short d.dev fits.dev_fields) in
    subst (λ (x : Record A). IsSpellable x → n ≡ length (bytes_in_order o x) → 4088 < n → ⊥) (sym is) here

-- a data message has as many bytes as its definition says
message_length : {A : Type 0} (o : Order) (p : Option (Defined A)) (v : Values A) (n : ℕ) → Some n ≡ option_map message_size p → IsSomeAnd p (DataFits v)
    → n ≡ length (data_bytes o v)
message_length o None v n size fits = absurd fits
message_length o (Some p) v n size fits = ap (λ (x : Option ℕ). unwrap_or x 0) size ∙ sym (length-data o v p fits)

pub data_size : {A : Type 0} (e : Environment A) (r : Record A) (v : Values A) (n : ℕ) → r ≡ Data v → Some n ≡ option_map message_size (defined_at e v.local)
    → Fits e r → 1 + n ≡ length (record_bytes e r)
data_size {A} e r v n is size =
    let here : Fits e (Data v) → 1 + n ≡ length (record_bytes e (Data v)) =
    λ fits. let same = message_length (order_at e v.local) (defined_at e v.local) v n size fits in omega (arith, same) in
    subst (λ (x : Record A). Fits e x → 1 + n ≡ length (record_bytes e x)) (sym is) here

pub has_size : {A : Type 0} (e : Environment A) (r : Record A) (v : Values A) → r ≡ Data v → None ≡ option_map message_size (defined_at e v.local)
    → Fits e r → ⊥
has_size {A} e r v is none = subst (λ (x : Record A). Fits e x → ⊥) (sym is) (go (defined_at e v.local) none)
  where
    go : (p : Option (Defined A)) → None ≡ option_map message_size p → IsSomeAnd p (DataFits v) → ⊥
    go None none fits = fits
    go (Some p) none fits = absurd (cc none)

-- ---- records one after another

-- With this record they are still as many bytes as all have, or fewer.
pub size_within : {A : Type 0} (rs : List (Record A)) (i : ℕ) (r : Record A) (sizes : List ℕ) (m n : ℕ) → i < length rs → r ≡ get_or rs i r
    → AllFit empty_environment rs → AreSizes (learn_all empty_environment (take i rs)) sizes → length (records_bytes empty_environment rs) < 2 ^ 32
    → m ≡ length (records_bytes empty_environment (take i rs)) → n ≡ size_in sizes r
    → (m + n < 2 ^ 32) × (m + n ≡ length (records_bytes empty_environment (take (i + 1) rs)))
size_within rs i r sizes m n less is all known small before size =
    let e = learn_all empty_environment (take i rs) in
    let this : n ≡ length (record_bytes e r) = size ∙ in_size e sizes r (fits_at empty_environment rs i r less is all) known in
    let front = length-append (records_bytes empty_environment (take i rs)) (record_bytes e r) in
    let whole = ap length (record_parts empty_environment rs i r less is) in
    let parts = length-append (records_bytes empty_environment (take i rs) ++ record_bytes e r) (records_bytes (learn e r) (drop (i + 1) rs)) in
    (omega (arith, this, front, whole, parts, before, small), omega (arith, this, front, before, ap length (next_bytes empty_environment rs i r less is)))

-- ---- files

pub header_short : (h : Header) (n : ℕ) → HeaderFits h n → length (header_bytes h n) < 256
header_short h n fits = omega (arith, length-header_bytes h n fits.form, fits.size_fits)

pub file_short : {A : Type 0} (f : FitFile A) → IsWellFormed f → length (file_bytes f) ≤ 4294967552
file_short f good =
    let head = header_bytes f.header (length (body f)) in
    let sum = little_bytes 2 (checksum (summed f)) in
    let short = header_short f.header (length (body f)) good.header in
    omega (arith, length-append head (body f), length-append (head ++ body f) sum, length-little_bytes 2 (checksum (summed f)))

pub some_file_byte : {A : Type 0} (f : FitFile A) → 0 < length (file_bytes f)
some_file_byte f =
    let sum = little_bytes 2 (checksum (summed f)) in
    omega (arith, length-append (summed f) sum, length-little_bytes 2 (checksum (summed f)))

chain_bound : {A : Type 0} (fs : List (FitFile A)) → AllByRecursion IsWellFormed fs → length (chain_bytes fs) ≤ 4294967552 * length fs
chain_bound [] good = omega arith
chain_bound (f ∷ fs) good =
    let one = file_short f good.0 in
    let others = chain_bound fs good.1 in
    omega (arith, length-append (file_bytes f) (chain_bytes fs))

pub chain_short : {A : Type 0} (fs : List (FitFile A)) → length fs ≤ chain_limit → AllByRecursion IsWellFormed fs → length (chain_bytes fs) < 2 ^ 64
chain_short fs few good = let bound = chain_bound fs good in omega arith
