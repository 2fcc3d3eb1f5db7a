-- What describing does to all that was written, by what it does to the file that has begun.
use Rattle.std.proofs.Common.{◌≡◌, ◌∙◌, ℕ, Bool, true, List, refl, sym, ap, subst}
use Rattle.std.specs.Global.{Global}
use Rattle.std.specs.Prelude.{Some, None, Result, Ok, Err, IfErr, OnOk}
use Rattle.fit_record.specs.declared.file.FitFile.{FitFile}
use Rattle.fit_from_messages.specs.Alone.{why_no_lone_definition}
use Rattle.fit_writer.proofs.EachDescribed.{some_none}
use Rattle.fit_writer.specs.Describing.{DescribesForm, dev_fields}
use Rattle.fit_writer.specs.Descriptions.{IsDescriptionRefusal, KeepsSome, PutsDescriptions}
use Rattle.fit_writer.specs.Reading.{Form, form_in}
use Rattle.fit_writer.specs.Written.{Current, Writing}
use Rattle.fit_writer.specs.declared.file.OpenFile.{OpenFile}
use Rattle.fit_writer.specs.declared.refusal.Refusal.{Refusal}
use Rattle.fit_writer.specs.declared.refusal.Refusal.TheVariants.{NoFile, Block, Message, TooManyFiles, Full, Time, Described, TooLong, NoMemory}
use Rattle.fit_writer.specs.inner.Describing.{Becomes, IsUndescribed}
use Rattle.fit_writer.specs.inner.OpenFiles.{current_of, writing_of}

-- all that was written, with this file
abbrev all_with : List (FitFile Global) → Current → Writing
all_with files c = record { files = files; current = Some c }

module _ (files : List (FitFile Global)) (old new : OpenFile)
  where
    puts_all : (f : Form) → Becomes old new (λ before after. DescribesForm before after f)
        → PutsDescriptions (writing_of files true old) (writing_of files true new) f
    puts_all f (after, does, now) = (after, does, ap (all_with files) now)

    keeps_some : (f : Form) (why : Refusal) → IsUndescribed old new f why → KeepsSome (writing_of files true old) (writing_of files true new) f why
    keeps_some f TooLong ((after, some, now), long) = (after, some, ap (all_with files) now)
    keeps_some f NoMemory (defined, these, (after, some, now)) = (defined, these, (after, some, ap (all_with files) now))
    keeps_some f Described (never, now) = ap (all_with files) now
    keeps_some f NoFile h = absurd h
    keeps_some f (Block reason) h = absurd h
    keeps_some f (Message reason) h = absurd h
    keeps_some f TooManyFiles h = absurd h
    keeps_some f Full h = absurd h
    keeps_some f Time h = absurd h

refusal_of : (old new : OpenFile) (definition : List ℕ) (why : Refusal) → why_no_lone_definition definition ≡ None
    → IsUndescribed old new (form_in definition) why → IsDescriptionRefusal (Some (current_of old)) definition why
refusal_of old new definition TooLong stands (now, long) = (stands, long)
refusal_of old new definition NoMemory stands h = tt
refusal_of old new definition Described stands (never, now) = (stands, never)
refusal_of old new definition NoFile stands h = absurd h
refusal_of old new definition (Block reason) stands h = absurd h
refusal_of old new definition (Message reason) stands h = absurd h
refusal_of old new definition TooManyFiles stands h = absurd h
refusal_of old new definition Full stands h = absurd h
refusal_of old new definition Time stands h = absurd h

-- memory was refused before anything was put
pub none_put : (w : Writing) (files : List (FitFile Global)) (is_open : Bool) (file : OpenFile) (f : Form) → writing_of files is_open file ≡ w → is_open ≡ true
    → KeepsSome w w f NoMemory
none_put w files is_open file f view is =
    subst (λ (v : Writing). KeepsSome v v f NoMemory) (ap (λ (b : Bool). writing_of files b file) (sym is) ∙ view)
    (None, tt, (file.stream, some_none file.stream (dev_fields f), refl))

-- ---- results that are handed on

pub ok_describes : (w : Writing) (files : List (FitFile Global)) (is_open : Bool) (old new : OpenFile) (f g : Form) (r : Result (Unit {0}) Refusal)
    → writing_of files is_open old ≡ w → is_open ≡ true → f ≡ g → OnOk r (Becomes old new (λ before after. DescribesForm before after f))
    → OnOk r (PutsDescriptions w (writing_of files is_open new) g)
ok_describes w files is_open old new f g (Err why) view is same h = tt
ok_describes w files is_open old new f g (Ok x) view is same h =
    subst (λ (b : Bool). PutsDescriptions w (writing_of files b new) g) (sym is)
    (subst (λ (v : Writing). PutsDescriptions v (writing_of files true new) g) (ap (λ (b : Bool). writing_of files b old) (sym is) ∙ view)
    (puts_all files old new g (subst (λ (k : Form). Becomes old new (λ before after. DescribesForm before after k)) same h)))

pub err_describes : (w : Writing) (files : List (FitFile Global)) (is_open : Bool) (old new : OpenFile) (f g : Form) (r : Result (Unit {0}) Refusal)
    → writing_of files is_open old ≡ w → is_open ≡ true → f ≡ g → IfErr r (IsUndescribed old new f) → IfErr r (KeepsSome w (writing_of files is_open new) g)
err_describes w files is_open old new f g (Ok x) view is same h = tt
err_describes w files is_open old new f g (Err why) view is same h =
    subst (λ (b : Bool). KeepsSome w (writing_of files b new) g why) (sym is)
    (subst (λ (v : Writing). KeepsSome v (writing_of files true new) g why) (ap (λ (b : Bool). writing_of files b old) (sym is) ∙ view)
    (keeps_some files old new g why (subst (λ (k : Form). IsUndescribed old new k why) same h)))

pub err_refuses : (w : Writing) (files : List (FitFile Global)) (is_open : Bool) (old new : OpenFile) (f : Form) (definition : List ℕ)
    (r : Result (Unit {0}) Refusal) → writing_of files is_open old ≡ w → is_open ≡ true → why_no_lone_definition definition ≡ None → f ≡ form_in definition
    → IfErr r (IsUndescribed old new f) → IfErr r (IsDescriptionRefusal w.current definition)
err_refuses w files is_open old new f definition (Ok x) view is stands same h = tt
err_refuses w files is_open old new f definition (Err why) view is stands same h =
    subst (λ (v : Writing). IsDescriptionRefusal v.current definition why) (ap (λ (b : Bool). writing_of files b old) (sym is) ∙ view)
    (refusal_of old new definition why stands (subst (λ (k : Form). IsUndescribed old new k why) same h))
