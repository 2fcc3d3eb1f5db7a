-- What calls of a writer do to all that was written, by what they do to the file that has begun.
use Rattle.std.proofs.Common.{◌≡◌, ◌∙◌, ℕ, inl, inr, Bool, true, false, List, [], ◌∷◌, length, map, refl, sym, ap, subst, arith}
use Rattle.std.specs.Global.{Global}
use Rattle.std.proofs.lemmas.List.{length-append}
use Rattle.std.specs.Prelude.{◌+◌, ◌<◌, ◌≤◌, Option, Some, None, Result, Ok, Err, IfErr, IsTrue, OnOk, is_err, is_none, reverse, if◌then◌else◌}
use Rattle.std.specs.Io.KnownBytes.{Appends}
use Rattle.std.specs.List.{AllByRecursion}
use Rattle.std.specs.declared.alloc.AllocError.{AllocError}
use Rattle.fit_decode.specs.Reads.{Channel}
use Rattle.fit_encode.specs.Faults.{StopsAt}
use Rattle.fit_record.specs.Files.{IsWellFormed, IsWellFormedChain, chain_bytes, chain_limit}
use Rattle.fit_writer.specs.Finished.{IsFinished, IsNotFinished}
use Rattle.fit_writer.specs.declared.refusal.FinishFault.TheVariants.{Write}
use Rattle.fit_record.specs.declared.definition.MessageDef.{MessageDef}
use Rattle.fit_record.specs.declared.file.FitFile.{FitFile}
use Rattle.fit_record.specs.declared.message.Record.TheVariants.{Define}
use Rattle.fit_from_messages.specs.Alone.{codes_in, why_no_lone_definition, why_no_lone_message, why_no_message_at}
use Rattle.fit_from_messages.specs.Parts.{definition_in, dev_entries, entries_of, slots_in}
use Rattle.fit_from_messages.specs.declared.alone.LoneDefinition.{LoneDefinition}
use Rattle.fit_from_messages.specs.declared.slot.Slot.{Slot}
use Rattle.fit_writer.proofs.LoneForms.{same_form}
use Rattle.fit_writer.specs.Reading.{Form, entry_naming, entry_namings, form_in}
use Rattle.fit_writer.specs.Written.{Current, EndsFile, IsDefinitionRefusal, IsEnded, IsMessageRefusal, KeepsAll, PutsMessage, Writing, file_count}
use Rattle.fit_writer.specs.declared.file.OpenFile.{OpenFile}
use Rattle.fit_writer.specs.declared.refusal.Refusal.{Refusal}
use Rattle.fit_writer.specs.declared.refusal.Refusal.TheVariants.{NoFile, Block, Message, TooManyFiles, Full, Time, Described, TooLong, NoMemory}
use Rattle.fit_writer.specs.inner.OpenFiles.{IsUnput, current_of, writing_of}
use Rattle.fit_writer.specs.inner.Places.{form_of}
use Rattle.fit_writer.specs.inner.Puts.{IsHalfPutInto, IsPutInto, IsRefusedPut}

-- the form of a definition that was read is that of its block
pub read_form : (d : LoneDefinition) (block : List ℕ) → d.definition ≡ definition_in block → d.codes ≡ codes_in block → d.slots ≡ slots_in block
    → entries_of (length d.codes) d.dev.now ≡ dev_entries block → form_of d ≡ form_in block
read_form d block definition codes slots entries =
    same_form d.definition (definition_in block) d.codes (codes_in block) (map entry_naming (entries_of (length d.codes) d.dev.now)) (entry_namings block)
    d.slots (slots_in block) definition codes (ap (map entry_naming) entries) slots

pub puts_message : (files : List (FitFile Global)) (old new : OpenFile) (f g : Form) (block : List ℕ) → f ≡ g → IsPutInto old new f block
    → PutsMessage (writing_of files true old) (writing_of files true new) g block
puts_message files old new f g block same put = go (subst (λ (h : Form). IsPutInto old new h block) same put)
  where
    go : IsPutInto old new g block → PutsMessage (writing_of files true old) (writing_of files true new) g block
    go (after, is, now) = (after, is, ap (λ (c : Current). record { files = files; current = Some c }) now)

pub keeps_all : (files : List (FitFile Global)) (old new : OpenFile) (f g : Form) (block : List ℕ) (why : Refusal) → f ≡ g
    → IsHalfPutInto old new f block why → KeepsAll (writing_of files true old) (writing_of files true new) g block why
keeps_all files old new f g block why same half = go why (subst (λ (h : Form). IsHalfPutInto old new h block why) same half)
  where
    held : current_of new ≡ current_of old → writing_of files true new ≡ writing_of files true old
    held is = ap (λ (c : Current). let w : Writing = record { files = files; current = Some c } in w) is

    go : (why : Refusal) → IsHalfPutInto old new g block why → KeepsAll (writing_of files true old) (writing_of files true new) g block why
    go NoMemory (inl is) = inl (held is)
    go NoMemory (inr (after, puts, is)) =
        inr (after, puts, ap (λ (c : Current). let w : Writing = record { files = files; current = Some c } in w) is)
    go NoFile is = held is
    go (Block reason) is = held is
    go (Message reason) is = held is
    go TooManyFiles is = held is
    go Full is = held is
    go Time is = held is
    go Described is = held is
    go TooLong (inl is) = inl (held is)
    go TooLong (inr (after, puts, is)) =
        inr (after, puts, ap (λ (c : Current). let w : Writing = record { files = files; current = Some c } in w) is)

pub refusal_at : (c : Current) (definition block : List ℕ) (f : Form) (slots : List Slot) (why : Refusal) → why_no_lone_definition definition ≡ None
    → f ≡ form_in definition → slots ≡ slots_in definition → IsRefusedPut c.records f block (why_no_message_at block slots) why
    → IsMessageRefusal (Some c) definition block why
refusal_at c definition block f slots why stands same are refused =
    go why (subst (λ (h : Form). IsRefusedPut c.records h block (why_no_lone_message definition block) why) same
    (subst (λ o. IsRefusedPut c.records f block o why) (ap (why_no_message_at block) are) refused))
  where
    go : (why : Refusal) → IsRefusedPut c.records (form_in definition) block (why_no_lone_message definition block) why
        → IsMessageRefusal (Some c) definition block why
    go (Message reason) is = (stands, is)
    go NoMemory is = tt
    go NoFile is = absurd is.1
    go (Block reason) is = absurd is.1
    go TooManyFiles is = absurd is.1
    go Full is = (stands, is.0, is.1)
    go Time is = (stands, is.0, is.1)
    go Described is = (stands, is.0, is.1)
    go TooLong is = (stands, is.0, is.1)

pub message_refusal : (c : Current) (definition block : List ℕ) (f : Form) (d : LoneDefinition) (why : Refusal)
    → why_no_lone_definition definition ≡ None → f ≡ form_in definition → d.slots ≡ slots_in definition
    → IsRefusedPut c.records f block (why_no_message_at block d.slots) why → IsMessageRefusal (Some c) definition block why
message_refusal c definition block f d why stands same slots refused = refusal_at c definition block f d.slots why stands same slots refused

pub definition_refusal : (c : Current) (block : List ℕ) (d : MessageDef Global) (why : Refusal) → why_no_lone_definition block ≡ None
    → d ≡ definition_in block → IsUnput (Define d ∷ c.records) why → IsDefinitionRefusal (Some c) block why
definition_refusal c block d why stands same unput = go why (subst (λ (e : MessageDef Global). IsUnput (Define e ∷ c.records) why) same unput)
  where
    go : (why : Refusal) → IsUnput (Define (definition_in block) ∷ c.records) why → IsDefinitionRefusal (Some c) block why
    go TooLong long = (stands, long)
    go NoMemory is = tt
    go NoFile is = absurd is
    go (Block reason) is = absurd is
    go (Message reason) is = absurd is
    go TooManyFiles is = absurd is
    go Full is = absurd is
    go Time is = absurd is
    go Described is = absurd is

-- ---- results that are handed on

pub err_message : {X : Type 0} (w : Writing) (files : List (FitFile Global)) (is_open : Bool) (file : OpenFile) (d : LoneDefinition) (definition block : List ℕ)
    (r : Result X Refusal) → writing_of files is_open file ≡ w → is_open ≡ true → why_no_lone_definition definition ≡ None
    → form_of d ≡ form_in definition → d.slots ≡ slots_in definition
    → IfErr r (IsRefusedPut file.stream (form_of d) block (why_no_message_at block d.slots)) → IfErr r (IsMessageRefusal w.current definition block)
err_message w files is_open file d definition block (Ok x) view is stands same slots h = tt
err_message w files is_open file d definition block (Err why) view is stands same slots h =
    subst (λ (v : Writing). IsMessageRefusal v.current definition block why) (ap (λ (b : Bool). writing_of files b file) (sym is) ∙ view)
    (message_refusal (current_of file) definition block (form_of d) d why stands same slots h)

pub ok_message : {X : Type 0} (w : Writing) (files : List (FitFile Global)) (is_open : Bool) (old new : OpenFile) (f g : Form) (block : List ℕ)
    (r : Result X Refusal) → writing_of files is_open old ≡ w → is_open ≡ true → f ≡ g → OnOk r (IsPutInto old new f block)
    → OnOk r (PutsMessage w (writing_of files is_open new) g block)
ok_message w files is_open old new f g block (Err why) view is same h = tt
ok_message w files is_open old new f g block (Ok x) view is same h =
    subst (λ (b : Bool). PutsMessage w (writing_of files b new) g block) (sym is)
    (subst (λ (v : Writing). PutsMessage v (writing_of files true new) g block) (ap (λ (b : Bool). writing_of files b old) (sym is) ∙ view)
    (puts_message files old new f g block same h))

pub err_keeps : {X : Type 0} (w : Writing) (files : List (FitFile Global)) (is_open : Bool) (old new : OpenFile) (f g : Form) (block : List ℕ)
    (r : Result X Refusal) → writing_of files is_open old ≡ w → is_open ≡ true → f ≡ g → IfErr r (IsHalfPutInto old new f block)
    → IfErr r (KeepsAll w (writing_of files is_open new) g block)
err_keeps w files is_open old new f g block (Ok x) view is same h = tt
err_keeps w files is_open old new f g block (Err why) view is same h =
    subst (λ (b : Bool). KeepsAll w (writing_of files b new) g block why) (sym is)
    (subst (λ (v : Writing). KeepsAll v (writing_of files true new) g block why) (ap (λ (b : Bool). writing_of files b old) (sym is) ∙ view)
    (keeps_all files old new f g block why same h))

-- ---- ends of files

-- after a file has ended there is room for one more, if there was before
pub ended_few : (old : Writing) (files : List (FitFile Global)) → IsEnded old files → file_count old < chain_limit → length files + 1 ≤ chain_limit
ended_few old files (none, some) room = go old.current refl
  where
    go : (o : Option Current) → old.current ≡ o → length files + 1 ≤ chain_limit
    go None is =
        let count : length old.files + 0 < chain_limit =
        subst (λ (o : Option Current). length old.files + (if is_none o then 0 else 1) < chain_limit) is room in
        omega (arith, count, ap length (none is))
    go (Some f) is =
        let count : length old.files + 1 < chain_limit =
        subst (λ (o : Option Current). length old.files + (if is_none o then 0 else 1) < chain_limit) is room in
        let more = some f is in
        omega (arith, count, ap length more.2, length-append old.files (record { header = more.0; records = reverse f.records } ∷ []))

pub chain_is : (files : List (FitFile Global)) (n : ℕ) → length files + n ≤ chain_limit → (files ≡ [] → ⊥) → AllByRecursion IsWellFormed files
    → IsWellFormedChain chain_limit files
chain_is [] n few some each = absurd (some refl)
chain_is (f ∷ files) n few some each = record { some = omega arith; within = omega (arith, few); each = each }

pub some_files : (files : List (FitFile Global)) (b : Bool) → b ≡ false → (files ≡ [] → IsTrue b) → files ≡ [] → ⊥
some_files files b is empty none = let t : b ≡ true = empty none in cc (sym is ∙ t)

pub ended_ok : (P : Type 0) (r : Result (Unit {0}) AllocError) (b : Bool) → b ≡ is_err r → b ≡ false → OnOk r P → P
ended_ok P (Ok x) b is good h = h
ended_ok P (Err x) b is good h = absurd (cc (sym is ∙ good))

pub finish_ok : (old new : Writing) (sink : Channel) (files : List (FitFile Global)) → files ≡ new.files → EndsFile old new
    → IsWellFormedChain chain_limit files → Appends sink.before sink.after (chain_bytes files) → sink.failed ≡ false → IsFinished old new sink
finish_ok old new sink files same ends chain bytes works = (
  ends,
  (subst (λ (fs : List (FitFile Global)). IsWellFormedChain chain_limit fs) same chain, refl),
  subst (λ (fs : List (FitFile Global)). Appends sink.before sink.after (chain_bytes fs)) same bytes,
  works,
)

pub finish_write : (old new : Writing) (sink : Channel) (files : List (FitFile Global)) (written : ℕ) → files ≡ new.files → EndsFile old new
    → IsWellFormedChain chain_limit files → StopsAt sink.before sink.after sink.failed (chain_bytes files) written
    → IsNotFinished old new sink (Write written)
finish_write old new sink files written same ends chain stops = (
  ends,
  (subst (λ (fs : List (FitFile Global)). IsWellFormedChain chain_limit fs) same chain, refl),
  subst (λ (fs : List (FitFile Global)). StopsAt sink.before sink.after sink.failed (chain_bytes fs) written) same stops,
)
