-- A file of which one more record has come.
use Rattle.std.proofs.Common.{◌≡◌, ◌∙◌, ◌⊎◌, inl, inr, ◌≢◌, true, false, ℕ, ◌<◌, List, [], ◌∷◌, ◌++◌, length, refl, sym, ap, subst, arith}
use Rattle.std.proofs.lemmas.Bool.Decides.{eqb_tells}
use Rattle.std.proofs.lemmas.List.{get_or-set_other, get_or-set_same}
use Rattle.std.specs.Global.{Global}
use Rattle.std.specs.Prelude.{slice_index_or, slice_set, IfSome, Option, Some, None}
use Rattle.std.proofs.Common.{length-set}
use Rattle.std.proofs.Math.Dec.{eqb}
use Rattle.fit_frame.specs.Header.{FormFits}
use Rattle.fit_record.proofs.RecordLists.{all_fit-append, learn_all-append}
use Rattle.fit_record.proofs.SixteenPlaces.{sixteen_places}
use Rattle.fit_record.specs.Environment.{Environment, defined_at, defined_by, describe, described_by, empty_environment, learn, learn_all}
use Rattle.fit_record.specs.Records.{AllFit, DefinitionFits, Fits, dev_layout, layout}
use Rattle.fit_record.specs.declared.definition.MessageDef.{MessageDef}
use Rattle.fit_record.specs.declared.environment.Defined.{Defined}
use Rattle.fit_record.specs.declared.learn.Description.{Description}
use Rattle.fit_record.specs.declared.message.Record.{Record}
use Rattle.fit_record.specs.declared.message.Record.TheVariants.{Define, Values as Data}
use Rattle.fit_record.specs.declared.message.Values.{Values}
use Rattle.fit_from_messages.specs.declared.file.OpenFile.{OpenFile}
use Rattle.fit_from_messages.specs.declared.slot.Slot.{Slot}
use Rattle.fit_from_messages.specs.inner.OpenFiles.{IsGoodFile}
use Rattle.fit_from_messages.specs.Slots.{SlotsFit}

-- the slots are those of what is defined for a local message type, if anything is
abbrev AreOf : Option (Defined Global) → List Slot → Type 0
AreOf o slots = IfSome o (λ p. SlotsFit (layout p ++ dev_layout p) slots)

described_kept : (e : Environment Global) (o : Option Description) (local : ℕ) → defined_at (describe e o) local ≡ defined_at e local
described_kept e None local = refl
described_kept e (Some d) local = refl

next_known : (e : Environment Global) (records : List (Record Global)) (r : Record Global) → e ≡ learn_all empty_environment records
    → learn e r ≡ learn_all empty_environment (records ++ r ∷ [])
next_known e records r known = ap (λ x. learn x r) known ∙ sym (learn_all-append empty_environment records (r ∷ []))

next_fit : (e : Environment Global) (records : List (Record Global)) (r : Record Global) → e ≡ learn_all empty_environment records
    → AllFit empty_environment records → Fits e r → AllFit empty_environment (records ++ r ∷ [])
next_fit e records r known fit one = all_fit-append empty_environment records (r ∷ []) fit (subst (λ x. Fits x r) known one, tt)

-- ---- a data message

pub sound_message : (f g : OpenFile) (v : Values Global) → IsGoodFile f → Fits f.env (Data v) → g.header ≡ f.header → g.records ≡ f.records ++ Data v ∷ []
    → g.env ≡ learn f.env (Data v) → g.slots ≡ f.slots → IsGoodFile g
sound_message f g v sound fits header records env slots = record {
  form = subst (λ h. FormFits h) (sym header) sound.form;
  known = env ∙ next_known f.env f.records (Data v) sound.known ∙ ap (learn_all empty_environment) (sym records);
  fit = subst (AllFit empty_environment) (sym records) (next_fit f.env f.records (Data v) sound.known sound.fit fits);
  sixteen = ap length slots ∙ sound.sixteen;
  slots = λ local.
      subst (λ e. AreOf (defined_at e local) (slice_index_or g.slots local [])) (sym env)
      (subst (λ o. AreOf o (slice_index_or g.slots local [])) (sym (described_kept f.env (described_by f.env v) local))
      (subst (λ ss. AreOf (defined_at f.env local) (slice_index_or ss local [])) (sym slots) (sound.slots local)));
}

-- ---- a definition

sixteen_known : (f : OpenFile) → IsGoodFile f → length f.env.places ≡ 16
sixteen_known f sound = ap (λ (e : Environment Global). length e.places) sound.known ∙ sixteen_places {A = Global} f.records

slots_next : (f : OpenFile) (d : MessageDef Global) (slots : List Slot) (local : ℕ) → IsGoodFile f → d.local < 16
    → SlotsFit (layout (defined_by f.env d) ++ dev_layout (defined_by f.env d)) slots
    → AreOf (defined_at (learn f.env (Define d)) local) (slice_index_or (slice_set f.slots d.local slots) local [])
slots_next f d slots local sound few fit = go (eqb_tells local d.local)
  where
    go : ((eqb local d.local ≡ true) × (local ≡ d.local)) ⊎ ((eqb local d.local ≡ false) × (local ≢ d.local))
        → AreOf (defined_at (learn f.env (Define d)) local) (slice_index_or (slice_set f.slots d.local slots) local [])
    go (inl same) =
        let here : slice_index_or (slice_set f.env.places d.local (Some (defined_by f.env d))) d.local None ≡ Some (defined_by f.env d) =
        get_or-set_same f.env.places d.local (Some (defined_by f.env d)) None (omega (arith, few, sixteen_known f sound)) in
        let there : slice_index_or (slice_set f.slots d.local slots) d.local [] ≡ slots =
        get_or-set_same f.slots d.local slots [] (omega (arith, few, sound.sixteen)) in
        subst (λ k. AreOf (defined_at (learn f.env (Define d)) k) (slice_index_or (slice_set f.slots d.local slots) k [])) (sym same.1)
        (subst (λ o. AreOf o (slice_index_or (slice_set f.slots d.local slots) d.local [])) (sym here) (subst (AreOf (Some (defined_by f.env d)))
        (sym there) fit))
    go (inr other) =
        let here : slice_index_or (slice_set f.env.places d.local (Some (defined_by f.env d))) local None ≡ defined_at f.env local =
        get_or-set_other f.env.places d.local local (Some (defined_by f.env d)) None other.1 in
        let there : slice_index_or (slice_set f.slots d.local slots) local [] ≡ slice_index_or f.slots local [] =
        get_or-set_other f.slots d.local local slots [] other.1 in
        subst (λ o. AreOf o (slice_index_or (slice_set f.slots d.local slots) local [])) (sym here)
        (subst (AreOf (defined_at f.env local)) (sym there) (sound.slots local))

pub sound_definition : (f g : OpenFile) (d : MessageDef Global) (slots : List Slot) → IsGoodFile f → DefinitionFits d → g.header ≡ f.header
    → g.records ≡ f.records ++ Define d ∷ [] → g.env ≡ learn f.env (Define d) → g.slots ≡ slice_set f.slots d.local slots
    → SlotsFit (layout (defined_by f.env d) ++ dev_layout (defined_by f.env d)) slots → IsGoodFile g
sound_definition f g d slots sound fits header records env set_slots fit = record {
  form = subst (λ h. FormFits h) (sym header) sound.form;
  known = env ∙ next_known f.env f.records (Define d) sound.known ∙ ap (learn_all empty_environment) (sym records);
  fit = subst (AllFit empty_environment) (sym records) (next_fit f.env f.records (Define d) sound.known sound.fit fits);
  sixteen = ap length set_slots ∙ length-set f.slots d.local slots ∙ sound.sixteen;
  slots = λ local.
      subst (λ e. AreOf (defined_at e local) (slice_index_or g.slots local [])) (sym env)
      (subst (λ ss. AreOf (defined_at (learn f.env (Define d)) local) (slice_index_or ss local [])) (sym set_slots)
      (slots_next f d slots local sound fits.local fit));
}

-- what is defined then
pub defined_then : (f : OpenFile) (d : MessageDef Global) → IsGoodFile f → d.local < 16 → defined_at (learn f.env (Define d)) d.local ≡ Some
    (defined_by f.env d)
defined_then f d sound few = get_or-set_same f.env.places d.local (Some (defined_by f.env d)) None (omega (arith, few, sixteen_known f sound))
