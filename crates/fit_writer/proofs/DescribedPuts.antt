-- Messages whose developer fields are described before them.
use Rattle.std.proofs.Common.{◌≡◌, ◌∙◌, ℕ, ◌<◌, inl, inr, List, [], ◌∷◌, refl, sym, ap, subst}
use Rattle.std.specs.Global.{Global}
use Rattle.std.specs.Prelude.{Option, Some, None, Result, Ok, Err, IfErr, OnOk}
use Rattle.fit_record.specs.declared.definition.MessageDef.{MessageDef}
use Rattle.fit_record.specs.declared.environment.Defined.{Defined}
use Rattle.fit_record.specs.declared.message.Record.{Record}
use Rattle.fit_record.specs.declared.message.Record.TheVariants.{Define, Values as Data}
use Rattle.fit_record.specs.declared.message.Values.{Values}
use Rattle.fit_record.specs.Environment.{defined_at}
use Rattle.fit_record.specs.Faults.{or_else}
use Rattle.fit_profile.specs.Described.{namings_at}
use Rattle.fit_profile.specs.Looks.{known}
use Rattle.fit_profile.specs.Times.{previous_time, time}
use Rattle.fit_writer.proofs.DescribedAfter.{some_inside}
use Rattle.fit_writer.proofs.EachDescribed.{each_some}
use Rattle.fit_writer.proofs.HalfDescribed.{same_header}
use Rattle.fit_writer.specs.Describing.{AddsIndex, DescribesEach, DescribesField, DescribesForm, DevField, IsAdded, dev_fields}
use Rattle.fit_writer.specs.Reading.{Form, Reading, reading_by}
use Rattle.fit_writer.specs.Written.{Current, DefinesPart, DescribesBefore, DescribesPart, NeedsDescriptions, PutsDefining, with_definition}
use Rattle.fit_writer.specs.declared.file.OpenFile.{OpenFile}
use Rattle.fit_writer.specs.declared.refusal.Refusal.{Refusal}
use Rattle.fit_writer.specs.declared.refusal.Refusal.TheVariants.{NoFile, Block, Message, TooManyFiles, Full, Time, Described, TooLong, NoMemory}
use Rattle.fit_writer.specs.inner.Describing.{IsUndescribed}
use Rattle.fit_writer.specs.inner.OpenFiles.{IsHalfPut, current_of, current_with}
use Rattle.fit_writer.specs.inner.Puts.{IsHalfNeeded, IsTold, IsToldAfter, IsToldAfterIn, IsToldIn, IsUnneeded, IsUnplaced, limit_of}

-- ---- messages that describe have no time

definition_time : (defined : Option (MessageDef Global)) (s : List (Record Global)) → previous_time (with_definition defined s) ≡ previous_time s
definition_time None s = refl
definition_time (Some d) s = refl

added_time : (s t : List (Record Global)) (local : ℕ) (r : Reading) → r.time ≡ None → IsAdded s t local r → previous_time t ≡ previous_time s
added_time s t local r none added =
    let m : List (Record Global) = with_definition added.defined s in
    let v : Values Global = added.message in
    let inside = some_inside (λ (p : Defined Global). reading_by p.definition p.dev_codes (namings_at m v.local) v (time m (Data v)))
    (defined_at (known m) v.local) r added.told in
    let untimed : time m (Data v) ≡ None = ap (λ (x : Reading). x.time) inside.2 ∙ none in
    ap previous_time added.records ∙ ap (λ (o : Option ℕ). or_else o (previous_time m)) untimed ∙ definition_time added.defined s

index_time : (s t : List (Record Global)) (index : ℕ) → AddsIndex s t index → previous_time t ≡ previous_time s
index_time s t index (inl (has, same)) = ap previous_time same
index_time s t index (inr (none, added)) = added_time s t 14 _ refl added

field_time_kept : (s t : List (Record Global)) (x : DevField) → DescribesField s t x → previous_time t ≡ previous_time s
field_time_kept s t x (inl (was, same)) = ap previous_time same
field_time_kept s t x (inr (never, mid, index, added)) = added_time mid t 15 _ refl added ∙ index_time s mid x.0.index index

each_time : (s t : List (Record Global)) (xs : List DevField) → DescribesEach s t xs → previous_time t ≡ previous_time s
each_time s t [] same = ap previous_time same
each_time s t (x ∷ xs) (mid, does, rest) = each_time mid t xs rest ∙ field_time_kept s mid x does

pub same_time : (s t : List (Record Global)) (f : Form) (names : ℕ → Type 0) → DescribesBefore s t f names → previous_time t ≡ previous_time s
same_time s t f names (inl same) = ap previous_time same
same_time s t f names (inr (needs, (each, would))) = each_time s t (dev_fields f) each

-- ---- where descriptions aren't put

module _ (old new : OpenFile) (f : Form) (block : List ℕ) (offset : Option ℕ) (needs : NeedsDescriptions old.stream f (λ k. k < limit_of offset))
  where
    undescribed_half : (why : Refusal) → IsUndescribed old new f why → IsHalfNeeded old new f (limit_of offset) why
    undescribed_half Described (never, same) = same
    undescribed_half TooLong ((after, some, now), long) = inr (after, (needs, some), now)
    undescribed_half NoMemory (None, these, (after, some, now)) = inr (after, inr (after, (needs, some), inl refl), now)
    undescribed_half NoMemory (Some d, these, (after, some, now)) =
        inr (Define d ∷ after, inr (after, (needs, some), inr (inr (d, these, refl))), now)
    undescribed_half NoFile h = absurd h
    undescribed_half (Block reason) h = absurd h
    undescribed_half (Message reason) h = absurd h
    undescribed_half TooManyFiles h = absurd h
    undescribed_half Full h = absurd h
    undescribed_half Time h = absurd h

    undescribed_why : (why : Refusal) → IsUndescribed old new f why → IsUnneeded old.stream f block offset why
    undescribed_why Described (never, same) = (needs, never)
    undescribed_why TooLong (now, (after, some, long)) = (after, inr (needs, some), long)
    undescribed_why NoMemory h = tt
    undescribed_why NoFile h = absurd h
    undescribed_why (Block reason) h = absurd h
    undescribed_why (Message reason) h = absurd h
    undescribed_why TooManyFiles h = absurd h
    undescribed_why Full h = absurd h
    undescribed_why Time h = absurd h

    pub half_undescribed : (why : Refusal) → IsUndescribed old new f why → IsHalfNeeded old new f (limit_of offset) why
    half_undescribed why h = undescribed_half why h

    pub why_undescribed : (why : Refusal) → IsUndescribed old new f why → IsUnneeded old.stream f block offset why
    why_undescribed why h = undescribed_why why h

-- ---- after descriptions

module _ (old mid new : OpenFile) (f : Form) (block : List ℕ) (offset : Option ℕ) (needs : NeedsDescriptions old.stream f (λ k. k < limit_of offset))
    (form : DescribesForm old.stream mid.stream f) (same : current_of mid ≡ current_with old mid.stream)
  where
    part : DescribesPart old.stream mid.stream f (λ k. k < limit_of offset)
    part = (needs, each_some old.stream mid.stream (dev_fields f) form.0)

    told_after : (after : List (Record Global)) → IsTold mid.stream f block offset after → IsToldAfter old.stream f block offset after
    told_after after told = record { described = mid.stream; describes = inr (needs, form); told = told }

    half_after : (d : MessageDef Global) (why : Refusal) → d ≡ f.definition → IsHalfPut mid new d why → IsUnplaced mid.stream f block offset why
        → IsHalfNeeded old new f (limit_of offset) why
    half_after d TooLong is half h = inr (mid.stream, part, half ∙ same)
    half_after d NoMemory is (inl kept) h = inr (mid.stream, inr (mid.stream, part, inl refl), kept ∙ same)
    half_after d NoMemory is (inr (after, puts, now)) h =
        inr (
          after,
          inr (mid.stream, part, inr (inl (subst (λ (e : MessageDef Global). PutsDefining mid.stream after e) is puts))),
          now ∙ same_header old mid after same,
        )
    half_after d Described is half h = absurd (h.0 form.1)
    half_after d NoFile is half h = absurd h
    half_after d (Block reason) is half h = absurd h
    half_after d (Message reason) is half h = absurd h
    half_after d TooManyFiles is half h = absurd h
    half_after d Full is half h = absurd h
    half_after d Time is half h = absurd h

    why_after : (why : Refusal) → IsUnplaced mid.stream f block offset why → IsUnneeded old.stream f block offset why
    why_after TooLong (after, told, long) = (after, inl (told_after after told), long)
    why_after NoMemory h = tt
    why_after Described h = absurd (h.0 form.1)
    why_after NoFile h = absurd h
    why_after (Block reason) h = absurd h
    why_after (Message reason) h = absurd h
    why_after TooManyFiles h = absurd h
    why_after Full h = absurd h
    why_after Time h = absurd h

    pub ok_after : (r : Result (Unit {0}) Refusal) → OnOk r (IsToldIn mid new f block offset) → OnOk r (IsToldAfterIn old new f block offset)
    ok_after (Err why) h = tt
    ok_after (Ok x) (after, told, now) = (after, told_after after told, now ∙ same_header old mid after same)

    pub err_after : (d : MessageDef Global) (r : Result (Unit {0}) Refusal) → d ≡ f.definition → IfErr r (IsHalfPut mid new d)
        → IfErr r (IsUnplaced mid.stream f block offset) → IfErr r (IsHalfNeeded old new f (limit_of offset))
    err_after d (Ok x) is half h = tt
    err_after d (Err why) is half h = half_after d why is half h

    pub refused_after : (r : Result (Unit {0}) Refusal) → IfErr r (IsUnplaced mid.stream f block offset) → IfErr r (IsUnneeded old.stream f block offset)
    refused_after (Ok x) h = tt
    refused_after (Err why) h = why_after why h

-- ---- where no descriptions are needed

pub ok_at_once : (old new : OpenFile) (f : Form) (block : List ℕ) (offset : Option ℕ) → IsToldIn old new f block offset → IsToldAfterIn old new f block offset
ok_at_once old new f block offset (after, told, now) = (after, record { described = old.stream; describes = inl refl; told = told }, now)

pub half_at_once : (old new : OpenFile) (f : Form) (limit : ℕ) (why : Refusal) → IsHalfPut old new f.definition why → IsHalfNeeded old new f limit why
half_at_once old new f limit TooLong same = inl same
half_at_once old new f limit NoMemory (inl same) = inl same
half_at_once old new f limit NoMemory (inr (after, puts, now)) = inr (after, inl puts, now)
half_at_once old new f limit Described same = same
half_at_once old new f limit NoFile same = same
half_at_once old new f limit (Block reason) same = same
half_at_once old new f limit (Message reason) same = same
half_at_once old new f limit TooManyFiles same = same
half_at_once old new f limit Full same = same
half_at_once old new f limit Time same = same

pub why_at_once : (s : List (Record Global)) (f : Form) (block : List ℕ) (offset : Option ℕ) (why : Refusal) → (why ≡ Described → ⊥)
    → IsUnplaced s f block offset why → IsUnneeded s f block offset why
why_at_once s f block offset TooLong other (after, told, long) =
    (after, inl (record { described = s; describes = inl refl; told = told }), long)
why_at_once s f block offset NoMemory other h = tt
why_at_once s f block offset Described other h = absurd (other refl)
why_at_once s f block offset NoFile other h = absurd h
why_at_once s f block offset (Block reason) other h = absurd h
why_at_once s f block offset (Message reason) other h = absurd h
why_at_once s f block offset TooManyFiles other h = absurd h
why_at_once s f block offset Full other h = absurd h
why_at_once s f block offset Time other h = absurd h

-- ---- from a file that is as another

module _ (old mid new : OpenFile) (f : Form) (block : List ℕ) (offset : Option ℕ) (same : current_of mid ≡ current_of old)
  where
    stream : mid.stream ≡ old.stream
    stream = ap (λ (c : Current). c.records) same

    header : (rs : List (Record Global)) → current_with mid rs ≡ current_with old rs
    header rs = ap (λ (c : Current). let d : Current = record { header = c.header; records = rs } in d) same

    pub needs_there : NeedsDescriptions old.stream f (λ k. k < limit_of offset) → NeedsDescriptions mid.stream f (λ k. k < limit_of offset)
    needs_there h = subst (λ (rs : List (Record Global)). NeedsDescriptions rs f (λ k. k < limit_of offset)) (sym stream) h

    pub ok_there : (r : Result (Unit {0}) Refusal) → OnOk r (IsToldAfterIn mid new f block offset) → OnOk r (IsToldAfterIn old new f block offset)
    ok_there (Err why) h = tt
    ok_there (Ok x) (after, told, now) =
        (after, subst (λ (rs : List (Record Global)). IsToldAfter rs f block offset after) stream told, now ∙ header after)

    half_there : (why : Refusal) → IsHalfNeeded mid new f (limit_of offset) why → IsHalfNeeded old new f (limit_of offset) why
    half_there TooLong (inl kept) = inl (kept ∙ same)
    half_there TooLong (inr (after, is, now)) =
        inr (after, subst (λ (rs : List (Record Global)). DescribesPart rs after f (λ k. k < limit_of offset)) stream is, now ∙ header after)
    half_there NoMemory (inl kept) = inl (kept ∙ same)
    half_there NoMemory (inr (after, is, now)) =
        inr (after, subst (λ (rs : List (Record Global)). DefinesPart rs after f (λ k. k < limit_of offset)) stream is, now ∙ header after)
    half_there Described kept = kept ∙ same
    half_there NoFile kept = kept ∙ same
    half_there (Block reason) kept = kept ∙ same
    half_there (Message reason) kept = kept ∙ same
    half_there TooManyFiles kept = kept ∙ same
    half_there Full kept = kept ∙ same
    half_there Time kept = kept ∙ same

    pub err_there : (r : Result (Unit {0}) Refusal) → IfErr r (IsHalfNeeded mid new f (limit_of offset)) → IfErr r (IsHalfNeeded old new f (limit_of offset))
    err_there (Ok x) h = tt
    err_there (Err why) h = half_there why h

    pub refused_there : (r : Result (Unit {0}) Refusal) → IfErr r (IsUnneeded mid.stream f block offset) → IfErr r (IsUnneeded old.stream f block offset)
    refused_there (Ok x) h = tt
    refused_there (Err why) h = subst (λ (rs : List (Record Global)). IsUnneeded rs f block offset why) stream h
