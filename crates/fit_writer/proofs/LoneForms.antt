-- Definitions that stand by themselves, and the bytes of their messages.
use Rattle.std.proofs.Common.{◌≡◌, ◌∙◌, ℕ, ◌<◌, Bool, true, false, cond, List, ◌∷◌, ◌++◌, length, map, refl, sym, ap, ap₂, subst, arith}
use Rattle.std.specs.Global.{Global}
use Rattle.std.specs.List.{list_all}
use Rattle.std.specs.Prelude.{Option, Some, None, zip, ◌&&◌, nat_le}
use Rattle.std.proofs.lemmas.Bool.Decides.{nat_tests}
use Rattle.fit_base.specs.Numbers.{IsBytes}
use Rattle.fit_base.specs.declared.number.Order.{Order}
use Rattle.fit_record.specs.declared.definition.DevDef.{DevDef}
use Rattle.fit_record.specs.declared.definition.FieldDef.{FieldDef}
use Rattle.fit_record.specs.declared.definition.MessageDef.{MessageDef}
use Rattle.fit_record.specs.declared.environment.Defined.{Defined}
use Rattle.fit_record.specs.declared.message.Record.{Record}
use Rattle.fit_record.specs.declared.message.Record.TheVariants.{Define, Values as Data}
use Rattle.fit_record.specs.Environment.{Environment, defined_at, defined_by, dev_defs}
use Rattle.fit_record.specs.Records.{DataHeaderFits, DefinitionFits, Fits, IsRecord, dev_layout, layout}
use Rattle.fit_profile.specs.Looks.{known}
use Rattle.fit_profile.specs.Described.{Naming}
use Rattle.fit_from_messages.proofs.MessageFacts.{lone_record}
use Rattle.fit_from_messages.specs.Alone.{lone_layout, message_with}
use Rattle.fit_from_messages.specs.Parts.{entries_of, entry_stands, number_read, slot_stands}
use Rattle.fit_from_messages.specs.Slots.{SlotsFit}
use Rattle.fit_from_messages.specs.declared.alone.LoneDefinition.{LoneDefinition}
use Rattle.fit_from_messages.specs.declared.slot.Slot.{Slot}
use Rattle.fit_writer.proofs.ReadThere.{says_own}
use Rattle.fit_writer.specs.Reading.{Form, dated, entry_naming, header_time_in, timestamp_field, values_by}
use Rattle.fit_writer.specs.Written.{SaysSame, WouldSaySame, with_local}
use Rattle.fit_writer.specs.inner.Places.{IsLone, form_of}
use Rattle.fit_writer.specs.inner.Spelled.{IsSpelled}

pub local_fits : (d : MessageDef Global) (local : ℕ) → DefinitionFits d → local < 16 → DefinitionFits (with_local d local)
local_fits d local fits few = record { local = few; global = fits.global; fields = fits.fields; dev_fields = fits.dev_fields }

-- ---- where another definition says the same

same_layouts : (p q : Defined Global) → p.definition.fields ≡ q.definition.fields → dev_defs p.definition.dev ≡ dev_defs q.definition.dev
    → p.dev_codes ≡ q.dev_codes → layout p ++ dev_layout p ≡ layout q ++ dev_layout q
same_layouts p q fields dev codes =
    ap₂ (λ (a b : List (ℕ × ℕ)). a ++ b) (ap (map (λ (f : FieldDef). (f.code, f.size))) fields)
    (ap₂ (λ (c : List ℕ) (d : List DevDef). zip c (map (λ (f : DevDef). f.size) d)) codes dev)

fits_there : (s : List (Record Global)) (local : ℕ) (d : LoneDefinition) (p : Defined Global) → IsLone d → SaysSame s local (form_of d) p
    → SlotsFit (layout p ++ dev_layout p) d.slots
fits_there s local d p lone same =
    let q : Defined Global = record { definition = d.definition; dev_codes = d.codes } in
    subst (λ (l : List (ℕ × ℕ)). SlotsFit l d.slots) (sym (same_layouts p q same.fields same.dev same.codes)) lone.slots_fit

-- the bytes are those of the message there
pub spelled_there : (s : List (Record Global)) (local : ℕ) (d : LoneDefinition) (block : List ℕ) (order : Order) (offset : Option ℕ) (bytes : List ℕ)
    (p : Defined Global) → IsLone d → SaysSame s local (form_of d) p → p.definition.order ≡ order → IsSpelled (form_of d) block order local offset bytes
    → IsRecord (known s) (Data (values_by (form_of d) block local offset)) bytes
spelled_there s local d block order offset bytes p lone same orders spelled =
    spelled (known s) p same.defined orders same.fields (fits_there s local d p lone same)

-- the message fits there
pub message_there : (s : List (Record Global)) (local : ℕ) (d : LoneDefinition) (block : List ℕ) (offset : Option ℕ) → IsBytes block → IsLone d
    → ((p : Defined Global) × SaysSame s local (form_of d) p) → DataHeaderFits local offset → list_all (slot_stands block) d.slots ≡ true
    → Fits (known s) (Data (values_by (form_of d) block local offset))
message_there s local d block offset are lone (p, same) header stand =
    subst (λ (n : ℕ). Fits (known s) (Data (message_with block d.slots n local offset))) (ap length same.fields)
    (lone_record (known s) p block d.slots local offset _ are same.defined header (fits_there s local d p lone same) stand refl).0

-- two that are there are one
pub same_order : (o : Option (Defined Global)) (p q : Defined Global) → o ≡ Some p → o ≡ Some q → p.definition.order ≡ q.definition.order
same_order o p q first second = go (sym first ∙ second)
  where
    go : Some p ≡ Some q → p.definition.order ≡ q.definition.order
    go is = let same : p ≡ q = cc in ap (λ (r : Defined Global). r.definition.order) same

pub local_few : (local : ℕ) (offset : Option ℕ) → DataHeaderFits local offset → local < 16
local_few local (Some o) fits = omega (arith, fits.0)
local_few local None fits = fits

-- what is spelled by where items are
pub spelled_as : (d : LoneDefinition) (block : List ℕ) (order : Order) (local : ℕ) (offset : Option ℕ) (slots : List Slot) (bytes : List ℕ)
    → slots ≡ d.slots
    → ((e : Environment Global) (p : Defined Global) → defined_at e local ≡ Some p → p.definition.order ≡ order → SlotsFit (layout p ++ dev_layout p) slots
    → IsRecord e (Data (message_with block slots (length p.definition.fields) local offset)) bytes)
    → IsSpelled (form_of d) block order local offset bytes
spelled_as d block order local offset slots bytes same spelled e p there orders fields fit =
    subst (λ (n : ℕ). IsRecord e (Data (message_with block d.slots n local offset)) bytes) (ap length fields)
    (subst (λ (ss : List Slot). IsRecord e (Data (message_with block ss (length p.definition.fields) local offset)) bytes) same
    (spelled e p there orders (subst (λ (ss : List Slot). SlotsFit (layout p ++ dev_layout p) ss) (sym same) fit)))

-- and where its own has just come
pub spelled_own : (s : List (Record Global)) (local : ℕ) (d : LoneDefinition) (block : List ℕ) (offset : Option ℕ) (bytes : List ℕ) → IsLone d
    → WouldSaySame s (form_of d) → local < 16 → IsSpelled (form_of d) block d.definition.order local offset bytes
    → IsRecord (known (Define (with_local d.definition local) ∷ s)) (Data (values_by (form_of d) block local offset)) bytes
spelled_own s local d block offset bytes lone same few spelled =
    spelled_there (Define (with_local d.definition local) ∷ s) local d block d.definition.order offset bytes
    (defined_by (known s) (with_local d.definition local)) lone (says_own s (form_of d) local few same) refl spelled

pub message_own : (s : List (Record Global)) (local : ℕ) (d : LoneDefinition) (block : List ℕ) (offset : Option ℕ) → IsBytes block → IsLone d
    → WouldSaySame s (form_of d) → DataHeaderFits local offset → list_all (slot_stands block) d.slots ≡ true
    → Fits (known (Define (with_local d.definition local) ∷ s)) (Data (values_by (form_of d) block local offset))
message_own s local d block offset are lone same header stand =
    message_there (Define (with_local d.definition local) ∷ s) local d block offset are lone
    (defined_by (known s) (with_local d.definition local), says_own s (form_of d) local (local_few local offset header) same) header stand

-- ---- with a timestamp

pub same_form : (a b : MessageDef Global) (c d : List ℕ) (m n : List Naming) (s t : List Slot) → a ≡ b → c ≡ d → m ≡ n → s ≡ t
    → (let f : Form = record { definition = a; codes = c; namings = m; slots = s } in f)
    ≡ (let g : Form = record { definition = b; codes = d; namings = n; slots = t } in g)
same_form a b c d m n s t definition codes namings slots = cc

abbrev with_stamp : MessageDef Global → MessageDef Global
with_stamp d = record d { fields = (timestamp_field 0).0 ∷ d.fields }

-- the definition e is d with one
pub record IsStamped (d e : LoneDefinition) : Type 0 where
  pub definition : e.definition ≡ record d.definition { fields = record { number = 253; size = 4; code = 0x86 } ∷ d.definition.fields }
  pub codes : e.codes ≡ d.codes
  pub slots : e.slots ≡ record { place = 32; width = 4; count = 1 } ∷ d.slots
  pub dev : e.dev.now ≡ d.dev.now

pub stamped_form : (d e : LoneDefinition) → IsStamped d e → form_of e ≡ dated (form_of d)
stamped_form d e is =
    same_form e.definition (with_stamp d.definition) e.codes d.codes (map entry_naming (entries_of (length e.codes) e.dev.now))
    (map entry_naming (entries_of (length d.codes) d.dev.now)) e.slots (record { place = 32; width = 4; count = 1 } ∷ d.slots) is.definition is.codes
    (ap₂ (λ (c b : List ℕ). map entry_naming (entries_of (length c) b)) is.codes is.dev) is.slots

pub stamped_lone : (d e : LoneDefinition) → IsLone d → length d.definition.fields < 255 → IsStamped d e → IsLone e
stamped_lone d e lone room is =
    let more : DefinitionFits (with_stamp d.definition) = record {
      local = lone.fits.local;
      global = lone.fits.global;
      fields = omega (arith, room);
      dev_fields = lone.fits.dev_fields;
    } in
    let fit : SlotsFit (lone_layout (with_stamp d.definition) d.codes) (record { place = 32; width = 4; count = 1 } ∷ d.slots) =
    (refl, refl, lone.slots_fit) in record {
      fits = subst DefinitionFits (sym is.definition) more;
      many = ap length is.codes ∙ lone.many ∙ ap (λ (f : MessageDef Global). length (dev_defs f.dev)) (sym is.definition);
      slots_fit = subst (λ (l : List Slot). SlotsFit (lone_layout e.definition e.codes) l) (sym is.slots)
          (subst (λ (c : List ℕ). SlotsFit (lone_layout e.definition c) (record { place = 32; width = 4; count = 1 } ∷ d.slots)) (sym is.codes)
          (subst (λ (f : MessageDef Global). SlotsFit (lone_layout f d.codes) (record { place = 32; width = 4; count = 1 } ∷ d.slots))
          (sym is.definition) fit));
      stand = ap₂ (λ (c b : List ℕ). list_all (entry_stands 1) (entries_of (length c) b)) is.codes is.dev ∙ lone.stand;
    }

-- the time of the header lies in the block
header_there : (a b c : Bool) (n t : ℕ) → cond ((a && b) && c) (Some n) None ≡ Some t → a ≡ true
header_there true b c n t is = refl
header_there false b c n t is = absurd (cc is)

enough : (n : ℕ) → nat_le 40 n ≡ true → nat_le 36 n ≡ true
enough n h = grind (arith, nat_tests)

pub stamp_stands : (block : List ℕ) (slots : List Slot) (t : ℕ) → header_time_in block ≡ Some t → list_all (slot_stands block) slots ≡ true
    → list_all (slot_stands block) (record { place = 32; width = 4; count = 1 } ∷ slots) ≡ true
stamp_stands block slots t told all =
    ap₂ (λ (a b : Bool). a && b) (enough (length block) (header_there (nat_le 40 (length block)) _ _ (number_read 4 32 block) t told)) all
