-- A message of a chain that is put after the records that are before it there is the message itself.
use Rattle.std.proofs.Common.{◌≡◌, ◌∙◌, inl, inr, ℕ, List, ◌∷◌, refl, sym, ap, ap₂, subst, arith, length, map}
use Rattle.std.proofs.lemmas.List.{length-map}
use Rattle.std.proofs.lemmas.Option.{none-some, same_Some}
use Rattle.std.proofs.lemmas.Slice.Zip.{length-zip, seconds-zip}
use Rattle.std.specs.Global.{Global}
use Rattle.std.specs.Prelude.{Option, Some, None, IsSomeAnd, zip}
use Rattle.fit_chain.specs.Events.{Event, item}
use Rattle.fit_messages.specs.Blocks.{event_block}
use Rattle.fit_profile.proofs.KnownFacts.{codes-long, namings_long}
use Rattle.fit_profile.specs.Described.{namings_at}
use Rattle.fit_profile.specs.Looks.{known}
use Rattle.fit_profile.specs.Times.{field_time, header_time, previous_time}
use Rattle.fit_record.specs.Environment.{defined_at, dev_defs}
use Rattle.fit_record.specs.Faults.{or_else}
use Rattle.fit_record.specs.Records.{DataFits, DataHeaderFits, Fits, dev_layout, layout}
use Rattle.fit_record.specs.declared.definition.DevDef.{DevDef}
use Rattle.fit_record.specs.declared.definition.FieldDef.{FieldDef}
use Rattle.fit_record.specs.declared.definition.MessageDef.{MessageDef}
use Rattle.fit_record.specs.declared.environment.Defined.{Defined}
use Rattle.fit_record.specs.declared.message.Record.{Record}
use Rattle.fit_record.specs.declared.message.Record.TheVariants.{Values as Data}
use Rattle.fit_record.specs.declared.message.Values.{Values}
use Rattle.fit_report.specs.Heard.{latest_records}
use Rattle.fit_from_messages.proofs.MessageBack.{as_many}
use Rattle.fit_writer.proofs.SaidTold.{IsSaid, few_types, form_by, told_by}
use Rattle.fit_writer.specs.Laws.{latest_definition}
use Rattle.fit_writer.specs.Reading.{Form, Reading, form_in, reading_after, reading_by, said_reading}
use Rattle.fit_writer.specs.Written.{CanName, DescribesBefore, IsNeeded, IsPlaced, IsPut, KeepsOffset, NeedsTimestamp, SaysSame, with_definition}

-- ---- lists that are zipped with the same

same_zipped : {X Y : Type 0} (xs : List X) (ys zs : List Y) → length ys ≡ length xs → length zs ≡ length xs → zip xs ys ≡ zip xs zs → ys ≡ zs
same_zipped xs ys zs long other same =
    sym (seconds-zip xs ys long) ∙ ap (map (λ p. p.1)) same ∙ seconds-zip xs zs other

-- ---- what is read of messages of one definition says their items

module _ (before : List (Record Global)) (p : Defined Global) (local : ℕ) (defined : defined_at (known before) local ≡ Some p) where
  fields_long : (v : Values Global) → DataFits v p → length v.fields ≡ length p.definition.fields
  fields_long v fits = as_many (layout p) v.fields fits.fields ∙ length-map p.definition.fields (λ (f : FieldDef). (f.code, f.size))

  dev_long : (v : Values Global) → DataFits v p → length v.dev ≡ length (dev_defs p.definition.dev)
  dev_long v fits =
      let codes = codes-long before local p defined in
      omega (
        arith,
        as_many (dev_layout p) v.dev fits.dev_fields,
        length-zip p.dev_codes (map (λ (f : DevDef). f.size) (dev_defs p.definition.dev)),
        length-map (dev_defs p.definition.dev) (λ (f : DevDef). f.size),
        codes,
      )

  zipped_long : (v : Values Global) → DataFits v p
      → (length v.dev ≡ length (namings_at before local)) × (length (zip (namings_at before local) v.dev) ≡ length p.dev_codes)
      × (length (zip p.dev_codes (zip (namings_at before local) v.dev)) ≡ length (dev_defs p.definition.dev))
  zipped_long v fits =
      let codes = codes-long before local p defined in
      let namings = namings_long before local p defined in
      let dev = dev_long v fits in
      let first = length-zip (namings_at before local) v.dev in (
        omega (arith, dev, namings),
        omega (arith, dev, namings, codes, first),
        omega (arith, dev, namings, codes, first, length-zip p.dev_codes (zip (namings_at before local) v.dev)),
      )

  pub same_items : (v w : Values Global) (t u : Option ℕ) → DataFits v p → DataFits w p
      → reading_by p.definition p.dev_codes (namings_at before local) v t ≡ reading_by p.definition p.dev_codes (namings_at before local) w u
      → (v.fields ≡ w.fields) × (v.dev ≡ w.dev)
  same_items v w t u fits other same =
      let (a, b, c) = zipped_long v fits in
      let (x, y, z) = zipped_long w other in (
        same_zipped p.definition.fields v.fields w.fields (fields_long v fits) (fields_long w other) (ap (λ (r : Reading). r.fields) same),
        same_zipped (namings_at before local) v.dev w.dev a x
            (same_zipped p.dev_codes (zip (namings_at before local) v.dev) (zip (namings_at before local) w.dev) b y
            (same_zipped (dev_defs p.definition.dev) (zip p.dev_codes (zip (namings_at before local) v.dev))
            (zip p.dev_codes (zip (namings_at before local) w.dev)) c z (ap (λ (r : Reading). r.dev) same))),
      )

-- ---- where it is put

module _ (heard : List (Event Global)) (v : Values Global) (s : IsSaid heard v) where
  abbrev pub before : List (Record Global)
  before = latest_records heard

  abbrev pub form : Form
  form = form_in (latest_definition heard v.local)

  abbrev pub block : List ℕ
  block = event_block heard (item (Data v))

  pub keeps : (o : ℕ) → v.offset ≡ Some o → KeepsOffset before block
  keeps o is = record {
    offset = o;
    is = s.offset ∙ is;
    same = sym (s.header_time ∙ ap (header_time (previous_time before)) is);
  }

  pub keeps_none : v.offset ≡ None → KeepsOffset before block → ⊥
  keeps_none none k = none-some k.offset (sym (s.offset ∙ none) ∙ k.is)

  never_needs : (offset : Option ℕ) → v.offset ≡ offset → (t : ℕ) → NeedsTimestamp before form block t → ⊥
  never_needs (Some o) is t needs = needs.lost (keeps o is)
  never_needs None is t needs = none-some t (sym (s.header_time ∙ ap (header_time (previous_time before)) is) ∙ needs.told)

  pub needs_none : (t : ℕ) → NeedsTimestamp before form block t → ⊥
  needs_none t needs = never_needs v.offset refl t needs

  pub needed_is : (needed : Form) → IsNeeded before form block needed → needed ≡ form
  needed_is needed (inl own) = own.1
  needed_is needed (inr dated) = absurd (needs_none dated.0 dated.1)

  names_by : (offset : Option ℕ) → v.offset ≡ offset → DataHeaderFits v.local offset → CanName before block v.local
  names_by (Some o) is fits = (few_types v.local (Some o) fits, λ k. fits.0)
  names_by None is fits = (fits, λ k. absurd (keeps_none is k))

  local_is : form.definition.local ≡ v.local
  local_is = ap (λ (f : Form). f.definition.local) s.form ∙ s.by.local_is

  pub can_name : CanName before block form.definition.local
  can_name = subst (CanName before block) (sym local_is) (names_by v.offset refl s.fits.header)

  says_there : (k : ℕ) → k ≡ v.local → SaysSame before k (form_by s.p (namings_at before v.local)) s.p
  says_there k same = record {
    defined = ap (defined_at (known before)) same ∙ s.defined;
    global = refl;
    fields = refl;
    dev = refl;
    codes = refl;
    namings = ap (namings_at before) same;
  }

  pub says_same : SaysSame before form.definition.local form s.p
  says_same = subst (λ f. SaysSame before form.definition.local f s.p) (sym s.form) (says_there form.definition.local local_is)

  -- it can be put as it is
  pub can_put : IsPut before (Data v ∷ before) form block
  can_put = record {
    form = form;
    needed = inl (needs_none, refl);
    described = before;
    describes = inl refl;
    defined = None;
    message = v;
    records = refl;
    fits = subst (λ o. IsSomeAnd o (DataFits v)) (sym s.defined) s.fits;
    told = s.told;
    kept = λ k. sym s.offset;
    without = λ never. without v.offset refl never;
    placed = record {
      own = λ p names says. sym local_is;
      fresh = λ d is. absurd (none-some d is);
      defines = λ d is. absurd (none-some d is);
      own_free = λ d is. absurd (none-some d is);
      free = λ d is. absurd (none-some d is);
    };
  }
    where
      without : (offset : Option ℕ) → v.offset ≡ offset → (KeepsOffset before block → ⊥) → v.offset ≡ None
      without None is never = is
      without (Some o) is never = absurd (never (keeps o is))

  -- and no other way
  module _ (after : List (Record Global)) (put : IsPut before after form block) where
    form_is : put.form ≡ form
    form_is = needed_is put.form put.needed

    -- its own local message type says the same, so nothing is described
    none_needed : DescribesBefore before put.described form (CanName before block) → put.described ≡ before
    none_needed (inl same) = same
    none_needed (inr (needs, describes)) = absurd (needs.1 form.definition.local s.p can_name says_same)

    described_is : put.described ≡ before
    described_is = none_needed (subst (λ f. DescribesBefore before put.described f (CanName before block)) form_is put.describes)

    placed : IsPlaced before form (CanName before block) put.defined put.message.local
    placed =
        subst (λ rs. IsPlaced rs form (CanName before block) put.defined put.message.local) described_is
        (subst (λ f. IsPlaced put.described f (CanName before block) put.defined put.message.local) form_is put.placed)

    own_type : put.message.local ≡ v.local
    own_type = placed.own s.p can_name says_same ∙ local_is

    none_new : (o : Option (MessageDef Global)) → put.defined ≡ o → put.defined ≡ None
    none_new None is = is
    none_new (Some d) is = absurd (placed.fresh d is form.definition.local s.p can_name says_same)

    none_defined : put.defined ≡ None
    none_defined = none_new put.defined refl

    earlier_is : with_definition put.defined put.described ≡ before
    earlier_is = ap₂ with_definition none_defined described_is

    records_are : after ≡ Data put.message ∷ before
    records_are = put.records ∙ ap (λ rs. let r : Record Global = Data put.message in r ∷ rs) earlier_is

    own_offset : (offset : Option ℕ) → v.offset ≡ offset → put.message.offset ≡ v.offset
    own_offset (Some o) is = put.kept (keeps o is) ∙ s.offset
    own_offset None is = put.without (keeps_none is) ∙ sym is

    defined : defined_at (known before) put.message.local ≡ Some s.p
    defined = ap (defined_at (known before)) own_type ∙ s.defined

    same_told : reading_after before put.message ≡ reading_after before v
    same_told =
        ap (λ rs. reading_after rs put.message) (sym earlier_is) ∙ put.told
        ∙ ap (λ f. Some (said_reading f block)) form_is ∙ sym s.told

    same_reading : reading_by s.p.definition s.p.dev_codes (namings_at before v.local) put.message
        (or_else (field_time s.p.definition put.message) (header_time (previous_time before) put.message.offset))
        ≡ reading_by s.p.definition s.p.dev_codes (namings_at before v.local) v
        (or_else (field_time s.p.definition v) (header_time (previous_time before) v.offset))
    same_reading =
        ap (λ k. reading_by s.p.definition s.p.dev_codes (namings_at before k) put.message
        (or_else (field_time s.p.definition put.message) (header_time (previous_time before) put.message.offset))) (sym own_type)
        ∙ same_Some _ _ (sym (told_by before put.message s.p defined) ∙ same_told ∙ told_by before v s.p s.defined)

    pub exact_put : after ≡ Data v ∷ before
    exact_put =
        let first : Fits (known before) (Data put.message) = subst (λ rs. Fits (known rs) (Data put.message)) earlier_is put.fits in
        let fits : DataFits put.message s.p = subst (λ o. IsSomeAnd o (DataFits put.message)) defined first in
        let items = same_items before s.p v.local s.defined put.message v _ _ fits s.fits same_reading in
        let offset = own_offset v.offset refl in
        let same : put.message ≡ v = λ i. record { local = own_type i; offset = offset i; fields = items.0 i; dev = items.1 i } in
        records_are ∙ ap (λ (m : Values Global). let r : Record Global = Data m in r ∷ before) same
