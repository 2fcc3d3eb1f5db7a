-- Files in which developer fields are described, or aren't all.
use Rattle.std.proofs.Common.{◌≡◌, ◌∙◌, ℕ, inl, inr, List, refl, sym, ap, subst}
use Rattle.std.specs.Global.{Global}
use Rattle.std.specs.Prelude.{◌⊎◌, Some, None, Result, Ok, Err, IfErr, OnOk}
use Rattle.fit_record.specs.declared.message.Record.{Record}
use Rattle.fit_writer.specs.Describing.{DescribesEach, DescribesForm, DescribesSome, DevField, IsAdded, dev_fields}
use Rattle.fit_writer.specs.Reading.{Form, Reading}
use Rattle.fit_writer.specs.Written.{Current, with_definition}
use Rattle.fit_writer.specs.declared.file.OpenFile.{OpenFile}
use Rattle.fit_writer.specs.declared.refusal.Refusal.{Refusal}
use Rattle.fit_writer.specs.declared.refusal.Refusal.TheVariants.{NoFile, Block, Message, TooManyFiles, Full, Time, Described, TooLong, NoMemory}
use Rattle.fit_writer.specs.inner.Describing.{Becomes, IsHalfDescribed, IsUndescribed}
use Rattle.fit_writer.specs.inner.OpenFiles.{current_of, current_with}
use Rattle.fit_writer.specs.inner.Plain.{IsUnadded}

-- what may be of the records before and after
abbrev pub Change : Type 1
Change = List (Record Global) → List (Record Global) → Type 0

pub same_header : (old mid : OpenFile) (rs : List (Record Global)) → current_of mid ≡ current_with old mid.stream → current_with mid rs ≡ current_with old rs
same_header old mid rs same = ap (λ (c : Current). let d : Current = record { header = c.header; records = rs } in d) same

-- the records are those of the stream
pub becomes_stream : (old new : OpenFile) (P : Change) → Becomes old new P → P old.stream new.stream × (current_of new ≡ current_with old new.stream)
becomes_stream old new P (after, is, now) =
    let stream : new.stream ≡ after = ap (λ (c : Current). c.records) now in (
      subst (P old.stream) (sym stream) is,
      now ∙ ap (current_with old) (sym stream),
    )

pub becomes_from : (old mid new : OpenFile) (P Q : Change) → current_of mid ≡ current_with old mid.stream
    → ((after : List (Record Global)) → P mid.stream after → Q old.stream after) → Becomes mid new P → Becomes old new Q
becomes_from old mid new P Q same to (after, is, now) = (after, to after is, now ∙ same_header old mid after same)

pub half_from : (old mid new : OpenFile) (P Q : Change) (why : Refusal) → current_of mid ≡ current_with old mid.stream
    → ((after : List (Record Global)) → P mid.stream after → Q old.stream after) → IsHalfDescribed mid new P why → IsHalfDescribed old new Q why
half_from old mid new P Q TooLong same to (now, (after, is, long)) = (becomes_from old mid new P Q same to now, (after, to after is, long))
half_from old mid new P Q NoMemory same to (defined, these, (after, is, now)) =
    (defined, these, (after, to after is, now ∙ same_header old mid (with_definition defined after) same))
half_from old mid new P Q NoFile same to h = absurd h
half_from old mid new P Q (Block reason) same to h = absurd h
half_from old mid new P Q (Message reason) same to h = absurd h
half_from old mid new P Q TooManyFiles same to h = absurd h
half_from old mid new P Q Full same to h = absurd h
half_from old mid new P Q Time same to h = absurd h
half_from old mid new P Q Described same to h = absurd h

-- memory was refused, and nothing has changed
pub half_none : (old : OpenFile) (P : Change) → P old.stream old.stream → IsHalfDescribed old old P NoMemory
half_none old P none = (None, tt, (old.stream, none, refl))

-- a message wasn't added
pub half_added : (old new : OpenFile) (local : ℕ) (r : Reading) (P : Change) (why : Refusal) → (r.global ≡ 206) ⊎ (r.global ≡ 207) → P old.stream old.stream
    → ((after : List (Record Global)) → IsAdded old.stream after local r → P old.stream after) → IsUnadded old new local r why → IsHalfDescribed old new P why
half_added old new local r P TooLong of none to (kept, (after, added, long)) = ((old.stream, none, kept), (after, to after added, long))
half_added old new local r P NoMemory of none to (inl kept) = (None, tt, (old.stream, none, kept))
half_added old new local r P NoMemory of none to (inr (d, is, now)) = (Some d, global of, (old.stream, none, now))
  where
    global : (r.global ≡ 206) ⊎ (r.global ≡ 207) → (d.global ≡ 206) ⊎ (d.global ≡ 207)
    global (inl same) = inl (is ∙ same)
    global (inr same) = inr (is ∙ same)
half_added old new local r P NoFile of none to h = absurd h
half_added old new local r P (Block reason) of none to h = absurd h
half_added old new local r P (Message reason) of none to h = absurd h
half_added old new local r P TooManyFiles of none to h = absurd h
half_added old new local r P Full of none to h = absurd h
half_added old new local r P Time of none to h = absurd h
half_added old new local r P Described of none to h = absurd h

-- ---- results that are handed on

pub ok_from : (old mid new : OpenFile) (P Q : Change) (r : Result (Unit {0}) Refusal) → current_of mid ≡ current_with old mid.stream
    → ((after : List (Record Global)) → P mid.stream after → Q old.stream after) → OnOk r (Becomes mid new P) → OnOk r (Becomes old new Q)
ok_from old mid new P Q (Ok x) same to h = becomes_from old mid new P Q same to h
ok_from old mid new P Q (Err why) same to h = tt

pub err_from : (old mid new : OpenFile) (P Q : Change) (r : Result (Unit {0}) Refusal) → current_of mid ≡ current_with old mid.stream
    → ((after : List (Record Global)) → P mid.stream after → Q old.stream after) → IfErr r (IsHalfDescribed mid new P) → IfErr r (IsHalfDescribed old new Q)
err_from old mid new P Q (Ok x) same to h = tt
err_from old mid new P Q (Err why) same to h = half_from old mid new P Q why same to h

pub err_added : (old mid new : OpenFile) (local : ℕ) (r s : Reading) (P : Change) (answer : Result (Unit {0}) Refusal)
    → current_of mid ≡ current_with old mid.stream
    → r ≡ s → (s.global ≡ 206) ⊎ (s.global ≡ 207) → P old.stream mid.stream
    → ((after : List (Record Global)) → IsAdded mid.stream after local s → P old.stream after) → IfErr answer (IsUnadded mid new local r)
    → IfErr answer (IsHalfDescribed old new P)
err_added old mid new local r s P (Ok x) same is of none to h = tt
err_added old mid new local r s P (Err why) same is of none to h =
    half_from old mid new (λ before after. P old.stream after) P why same (λ after p. p)
    (half_added mid new local s (λ before after. P old.stream after) why of none to (subst (λ (t : Reading). IsUnadded mid new local t why) is h))

pub ok_added_from : (old mid new : OpenFile) (local : ℕ) (r s : Reading) (P : Change) (answer : Result (Unit {0}) Refusal)
    → current_of mid ≡ current_with old mid.stream → r ≡ s → ((after : List (Record Global)) → IsAdded mid.stream after local s → P old.stream after)
    → OnOk answer (Becomes mid new (λ before after. IsAdded before after local r)) → OnOk answer (Becomes old new P)
ok_added_from old mid new local r s P answer same is to h =
    ok_from old mid new (λ before after. IsAdded before after local r) P answer same
    (λ after added. to after (subst (λ (t : Reading). IsAdded mid.stream after local t) is added)) h

-- of the developer fields of a form
pub err_form : (old new : OpenFile) (f : Form) (xs : List DevField) (r : Result (Unit {0}) Refusal) → xs ≡ dev_fields f
    → IfErr r (IsHalfDescribed old new (λ before after. DescribesSome before after xs)) → IfErr r (IsUndescribed old new f)
err_form old new f xs (Ok x) same h = tt
err_form old new f xs (Err why) same h =
    go why (subst (λ (ys : List DevField). IsHalfDescribed old new (λ before after. DescribesSome before after ys) why) same h)
  where
    go : (why : Refusal) → IsHalfDescribed old new (λ before after. DescribesSome before after (dev_fields f)) why → IsUndescribed old new f why
    go TooLong h = h
    go NoMemory h = h
    go NoFile h = absurd h
    go (Block reason) h = absurd h
    go (Message reason) h = absurd h
    go TooManyFiles h = absurd h
    go Full h = absurd h
    go Time h = absurd h
    go Described h = absurd h

pub ok_form : (old new : OpenFile) (f : Form) (xs : List DevField) (r : Result (Unit {0}) Refusal) → xs ≡ dev_fields f
    → ((after : List (Record Global)) → DescribesEach old.stream after (dev_fields f) → DescribesForm old.stream after f)
    → OnOk r (Becomes old new (λ before after. DescribesEach before after xs)) → OnOk r (Becomes old new (λ before after. DescribesForm before after f))
ok_form old new f xs (Err why) same to h = tt
ok_form old new f xs (Ok x) same to (after, does, now) =
    (after, to after (subst (λ (ys : List DevField). DescribesEach old.stream after ys) same does), now)
