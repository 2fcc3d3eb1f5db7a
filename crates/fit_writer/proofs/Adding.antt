-- Messages of fields alone that are added to a file.
use Rattle.std.proofs.Common.{◌≡◌, ◌∙◌, ℕ, ◌<◌, inl, inr, List, [], ◌∷◌, length, map, take, refl, sym, ap, ap₂, subst, arith, ◌^◌}
use Rattle.std.proofs.lemmas.List.{append-nil}
use Rattle.std.specs.Global.{Global}
use Rattle.std.specs.List.{list_all}
use Rattle.std.specs.Prelude.{Option, Some, None, Result, Ok, Err, IfErr, OnOk, zip}
use Rattle.fit_base.specs.declared.items.Items.{Items}
use Rattle.fit_base.specs.declared.number.Order.TheVariants.{Little}
use Rattle.fit_record.specs.declared.definition.DevDef.{DevDef}
use Rattle.fit_record.specs.declared.definition.FieldDef.{FieldDef}
use Rattle.fit_record.specs.declared.definition.MessageDef.{MessageDef}
use Rattle.fit_record.specs.declared.environment.Defined.{Defined}
use Rattle.fit_record.specs.declared.message.Record.{Record}
use Rattle.fit_record.specs.Environment.{dev_defs}
use Rattle.fit_record.specs.Records.{DefinitionFits}
use Rattle.fit_record.specs.Faults.{or_else}
use Rattle.fit_from_messages.specs.Alone.{lone_layout}
use Rattle.fit_from_messages.specs.Parts.{entries_of, entry_stands, items_read}
use Rattle.fit_from_messages.specs.Slots.{SlotsFit}
use Rattle.fit_from_messages.specs.declared.alone.LoneDefinition.{LoneDefinition}
use Rattle.fit_from_messages.specs.declared.slot.Slot.{Slot}
use Rattle.fit_profile.specs.Described.{Naming}
use Rattle.fit_writer.proofs.PlainMessages.{all_taken, made_fields, no_time, plain_long}
use Rattle.fit_writer.specs.Describing.{IsAdded, plain_form, plain_reading}
use Rattle.fit_writer.specs.Reading.{Form, Reading, entry_naming, fields_time}
use Rattle.fit_writer.specs.Written.{IsPlaced, SaysSame, with_local}
use Rattle.fit_writer.specs.declared.file.OpenFile.{OpenFile}
use Rattle.fit_writer.specs.declared.refusal.Refusal.{Refusal}
use Rattle.fit_writer.specs.declared.refusal.Refusal.TheVariants.{NoFile, Block, Message, TooManyFiles, Full, Time, Described, TooLong, NoMemory}
use Rattle.fit_writer.specs.inner.Describing.{Becomes}
use Rattle.fit_writer.specs.inner.OpenFiles.{IsHalfPut, current_with}
use Rattle.fit_writer.specs.inner.Places.{IsLone}
use Rattle.fit_writer.specs.inner.Plain.{IsMade, IsUnadded, fields_made}
use Rattle.fit_writer.specs.inner.Puts.{IsTold, IsToldIn, IsUnplaced, told_after}

-- the form that a message of these fields has, with its slots
abbrev pub made_form : MessageDef Global → List Slot → Form
made_form d slots = record { definition = d; codes = []; namings = []; slots = slots }

-- ---- where its definition is doesn't depend on slots

same_says : (s : List (Record Global)) (k : ℕ) (d : MessageDef Global) (a b : List Slot) (p : Defined Global) → SaysSame s k (made_form d a) p
    → SaysSame s k (made_form d b) p
same_says s k d a b p h =
    record { defined = h.defined; global = h.global; fields = h.fields; dev = h.dev; codes = h.codes; namings = h.namings }

placed_as : (s : List (Record Global)) (d : MessageDef Global) (a b : List Slot) (names : ℕ → Type 0) (defined : Option (MessageDef Global)) (local : ℕ)
    → IsPlaced s (made_form d a) names defined local → IsPlaced s (made_form d b) names defined local
placed_as s d a b names defined local h = record {
  own = λ p named same. h.own p named (same_says s d.local d b a p same);
  fresh = λ e is k p named same. h.fresh e is k p named (same_says s k d b a p same);
  defines = λ e is. h.defines e is;
  own_free = λ e is named none. h.own_free e is named none;
  free = λ e is k named none. h.free e is k named none;
}

-- ---- what is told of it

module _ (s : List (Record Global)) (d : MessageDef Global) (slots : List Slot) (block : List ℕ) (plain : IsMade d.fields slots block) (none : d.dev ≡ None)
  where
    items : map (items_read block) (take (length d.fields) slots) ≡ map (items_read block) slots
    items = ap (map (items_read block)) (all_taken d.fields slots plain.fit)

    untimed : fields_time (made_form d slots) block ≡ None
    untimed = no_time d.fields (map (items_read block) (take (length d.fields) slots)) plain.untimed

    abbrev told_with : List (Items Global) → Option ℕ → Reading
    told_with is time = record { global = d.global; fields = zip d.fields is; dev = []; time = time }

    no_devs : (dev : Option (List DevDef)) (others : List (ℕ × (Naming × Items Global))) → dev ≡ None → zip (dev_defs dev) others ≡ []
    no_devs None others is = refl
    no_devs (Some xs) others is = absurd (cc is)

    pub plain_told : told_after s (made_form d slots) block None ≡ plain_reading d.global (fields_made d.fields slots block)
    plain_told =
        ap (λ (dev : List (DevDef × (ℕ × (Naming × Items Global)))). let r : Reading = record {
          global = d.global;
          fields = zip d.fields (map (items_read block) (take (length d.fields) slots));
          dev = dev;
          time = or_else (fields_time (made_form d slots) block) None;
        } in r) (no_devs d.dev [] none)
        ∙ ap₂ told_with items (ap (λ o. or_else o None) untimed)

    abbrev reading : Reading
    reading = plain_reading d.global (fields_made d.fields slots block)

-- the definition of a message of these fields
abbrev pub plain_definition : ℕ → ℕ → List FieldDef → MessageDef Global
plain_definition local global fields = record { local = local; reserved = 0; order = Little; global = global; fields = fields; dev = None }

module _ (s : List (Record Global)) (local global : ℕ) (fields : List FieldDef) (slots : List Slot) (block : List ℕ) (plain : IsMade fields slots block)
  where
    abbrev form : Form
    form = made_form (plain_definition local global fields) slots

    abbrev made : Reading
    made = plain_reading global (fields_made fields slots block)

    is_form : made_form (plain_definition local global fields) [] ≡ plain_form local made
    is_form = ap (λ (fs : List FieldDef). made_form (plain_definition local global fs) []) (sym (made_fields fields slots block
        (plain_long fields slots block plain)))

    pub is_added : (after : List (Record Global)) → IsTold s form block None after → IsAdded s after local made
    is_added after told = record {
      defined = told.defined;
      message = told.message;
      records = told.records;
      told = told.told ∙ ap Some (plain_told s (plain_definition local global fields) slots block plain refl);
      offset = told.offset_is;
      placed = subst (λ (f : Form). IsPlaced s f (λ k. k < 16) told.defined told.message.local) is_form
          (placed_as s (plain_definition local global fields) slots [] (λ k. k < 16) told.defined told.message.local told.seated);
    }

-- ---- results that are handed on

pub ok_added : (old new : OpenFile) (f : Form) (local global : ℕ) (fields : List FieldDef) (slots : List Slot) (block : List ℕ) (r : Result (Unit {0}) Refusal)
    → IsMade fields slots block → f ≡ made_form (plain_definition local global fields) slots → OnOk r (IsToldIn old new f block None)
    → OnOk r (Becomes old new (λ before after. IsAdded before after local (plain_reading global (fields_made fields slots block))))
ok_added old new f local global fields slots block (Err why) plain same h = tt
ok_added old new f local global fields slots block (Ok x) plain same h =
    let told : IsToldIn old new (made_form (plain_definition local global fields) slots) block None =
    subst (λ (g : Form). IsToldIn old new g block None) same h in
    (told.0, is_added old.stream local global fields slots block plain told.0 told.1, told.2)

unadded : (old new : OpenFile) (d : MessageDef Global) (local global : ℕ) (fields : List FieldDef) (slots : List Slot) (block : List ℕ) (why : Refusal)
    → IsMade fields slots block → d.global ≡ global → IsHalfPut old new d why
    → IsUnplaced old.stream (made_form (plain_definition local global fields) slots) block None why
    → IsUnadded old new local (plain_reading global (fields_made fields slots block)) why
unadded old new d local global fields slots block TooLong plain same half h =
    (half, (h.0, is_added old.stream local global fields slots block plain h.0 h.1, h.2))
unadded old new d local global fields slots block NoMemory plain same (inl kept) h = inl kept
unadded old new d local global fields slots block NoMemory plain same (inr (after, puts, now)) h =
    inr (with_local d puts.0, same, now ∙ ap (current_with old) puts.1)
unadded old new d local global fields slots block Described plain same half h = absurd (h.0 tt)
unadded old new d local global fields slots block NoFile plain same half h = absurd h
unadded old new d local global fields slots block (Block reason) plain same half h = absurd h
unadded old new d local global fields slots block (Message reason) plain same half h = absurd h
unadded old new d local global fields slots block TooManyFiles plain same half h = absurd h
unadded old new d local global fields slots block Full plain same half h = absurd h
unadded old new d local global fields slots block Time plain same half h = absurd h

pub err_unadded : (old new : OpenFile) (f : Form) (d : MessageDef Global) (local global : ℕ) (fields : List FieldDef) (slots : List Slot) (block : List ℕ)
    (r : Result (Unit {0}) Refusal) → IsMade fields slots block → f ≡ made_form (plain_definition local global fields) slots → d.global ≡ global
    → IfErr r (IsHalfPut old new d) → IfErr r (IsUnplaced old.stream f block None)
    → IfErr r (IsUnadded old new local (plain_reading global (fields_made fields slots block)))
err_unadded old new f d local global fields slots block (Ok x) plain same is half h = tt
err_unadded old new f d local global fields slots block (Err why) plain same is half h =
    unadded old new d local global fields slots block why plain is half (subst (λ (g : Form). IsUnplaced old.stream g block None why) same h)

-- ---- it stands by itself

pub plain_lone : (d : LoneDefinition) (local global : ℕ) (fields : List FieldDef) (slots : List Slot) (block : List ℕ) → IsMade fields slots block
    → local < 16 → global < 2 ^ 16 → length fields < 256 → d.definition ≡ plain_definition local global fields → d.codes ≡ [] → d.slots ≡ slots → IsLone d
plain_lone d local global fields slots block plain few small short definition codes same =
    let fit : SlotsFit (lone_layout (plain_definition local global fields) []) slots =
    subst (λ (l : List (ℕ × ℕ)). SlotsFit l slots) (sym (append-nil (map (λ (f : FieldDef). (f.code, f.size)) fields))) plain.fit in record {
      fits = subst DefinitionFits (sym definition) (record { local = few; global = small; fields = short; dev_fields = omega arith });
      many = ap length codes ∙ sym (ap (λ (e : MessageDef Global). length (dev_defs e.dev)) definition);
      slots_fit = subst (λ (ss : List Slot). SlotsFit (lone_layout d.definition d.codes) ss) (sym same)
          (subst (λ (cs : List ℕ). SlotsFit (lone_layout d.definition cs) slots) (sym codes)
          (subst (λ (e : MessageDef Global). SlotsFit (lone_layout e []) slots) (sym definition) fit));
      stand = ap (λ (cs : List ℕ). list_all (entry_stands 1) (entries_of (length cs) d.dev.now)) codes;
    }

-- ---- as it is put

-- of a definition that has just been made
pub fresh_form : (local global : ℕ) (fields : List FieldDef) (slots : List Slot) (codes bytes : List ℕ) → codes ≡ []
    → (let f : Form = record {
      definition = plain_definition local global fields;
      codes = codes;
      namings = map entry_naming (entries_of (length codes) bytes);
      slots = slots;
    } in f)
    ≡ made_form (plain_definition local global fields) slots
fresh_form local global fields slots [] bytes none = refl
fresh_form local global fields slots (c ∷ codes) bytes none = absurd (cc none)

module _ (old new : OpenFile) (f : Form) (local global : ℕ) (fields : List FieldDef) (slots : List Slot) (block bytes : List ℕ)
    (self : List (FieldDef × Items Global)) (plain : IsMade fields slots block) (same : f ≡ made_form (plain_definition local global fields) slots)
    (is : bytes ≡ block) (view : fields_made fields slots block ≡ self)
  where
    pub ok_plain : (r : Result (Unit {0}) Refusal) → OnOk r (IsToldIn old new f bytes None)
        → OnOk r (Becomes old new (λ before after. IsAdded before after local (plain_reading global self)))
    ok_plain r h =
        subst (λ (xs : List (FieldDef × Items Global)). OnOk r (Becomes old new (λ before after. IsAdded before after local (plain_reading global xs)))) view
        (ok_added old new f local global fields slots block r plain same (subst (λ (bs : List ℕ). OnOk r (IsToldIn old new f bs None)) is h))

    pub err_plain : (d : MessageDef Global) (r : Result (Unit {0}) Refusal) → d.global ≡ global → IfErr r (IsHalfPut old new d)
        → IfErr r (IsUnplaced old.stream f bytes None) → IfErr r (IsUnadded old new local (plain_reading global self))
    err_plain d r of half h =
        subst (λ (xs : List (FieldDef × Items Global)). IfErr r (IsUnadded old new local (plain_reading global xs))) view
        (err_unadded old new f d local global fields slots block r plain same of half
        (subst (λ (bs : List ℕ). IfErr r (IsUnplaced old.stream f bs None)) is h))
