-- Messages that are put, as their readers are told them, and why others aren't put.
use Rattle.std.proofs.Common.{◌≡◌, ◌∙◌, ℕ, ◌<◌, inl, inr, Bool, true, false}
use Rattle.std.proofs.Common.{cond, List, ◌∷◌, refl, sym, ap, subst, arith}
use Rattle.std.specs.Global.{Global}
use Rattle.std.specs.Prelude.{Option, Some, None, IfSome, is_some, nat_lt}
use Rattle.fit_record.specs.declared.definition.MessageDef.{MessageDef}
use Rattle.fit_record.specs.declared.environment.Defined.{Defined}
use Rattle.fit_record.specs.declared.message.Record.{Record}
use Rattle.fit_record.specs.declared.message.Record.TheVariants.{Define, Values as Data}
use Rattle.fit_record.specs.Environment.{defined_at}
use Rattle.fit_record.specs.Faults.{or_else}
use Rattle.fit_record.specs.Records.{DataHeaderFits, Fits}
use Rattle.fit_profile.specs.Looks.{known}
use Rattle.fit_profile.specs.Times.{header_time, previous_time, valid_time}
use Rattle.fit_from_messages.specs.Parts.{number_read, offset_in}
use Rattle.fit_from_messages.specs.declared.fault.BlockReason.{BlockReason}
use Rattle.fit_writer.proofs.DescribedPuts.{same_time}
use Rattle.fit_writer.proofs.ReadThere.{read_there, same_after, says_own}
use Rattle.fit_writer.specs.Reading.{Form, Reading, dated, header_time_in}
use Rattle.fit_writer.specs.Reading.{fields_time, said_reading, values_by}
use Rattle.fit_writer.specs.Written.{CanName, DefinesPart, DescribesBefore, DescribesPart, IsNeeded, IsPlaced, IsPut, KeepsOffset, NeedsDescriptions}
use Rattle.fit_writer.specs.Written.{NeedsTimestamp, SaysSame}
use Rattle.fit_writer.specs.Written.{WouldSaySame, with_local}
use Rattle.fit_writer.specs.declared.refusal.Refusal.{Refusal}
use Rattle.fit_writer.specs.declared.refusal.Refusal.TheVariants.{NoFile, Block, Message, TooManyFiles, Full, Time, Described, TooLong, NoMemory}
use Rattle.fit_writer.specs.inner.OpenFiles.{IsUnput}
use Rattle.fit_writer.specs.inner.Puts.{IsChosen, IsKeptOffset, IsRefusedPut, IsSeated, IsTold, IsToldAfter, IsUnchosen, IsUnneeded, IsUnplaced, LosesTime}
use Rattle.fit_writer.specs.inner.Puts.{limit_of, told_after}

-- ---- record headers

pub header_fits : (offset : Option ℕ) (local limit : ℕ) → limit ≡ limit_of offset → local < limit → IfSome offset (λ o. o < 32) → DataHeaderFits local offset
header_fits (Some o) local limit is less small = (omega (arith, is, less), small)
header_fits None local limit is less small = omega (arith, is, less)

-- ---- what was put

pub told_known : (s : List (Record Global)) (local : ℕ) (f : Form) (block : List ℕ) (offset : Option ℕ) → ((p : Defined Global) × SaysSame s local f p)
    → ((p : Defined Global) → f.definition.local < limit_of offset → SaysSame s f.definition.local f p → local ≡ f.definition.local)
    → Fits (known s) (Data (values_by f block local offset)) → IsTold s f block offset (Data (values_by f block local offset) ∷ s)
told_known s local f block offset same own fits = record {
  defined = None;
  message = values_by f block local offset;
  records = refl;
  fits = fits;
  told = read_there s local f block offset same.0 same.1;
  offset_is = refl;
  seated = record {
    own = own;
    fresh = λ d is. absurd (cc is);
    defines = λ d is. absurd (cc is);
    own_free = λ d is. absurd (cc is);
    free = λ d is. absurd (cc is);
  };
}

pub told_both : (s : List (Record Global)) (local : ℕ) (f : Form) (block : List ℕ) (offset : Option ℕ) → local < 16 → WouldSaySame s f
    → ((k : ℕ) (p : Defined Global) → k < limit_of offset → SaysSame s k f p → ⊥)
    → (f.definition.local < limit_of offset → defined_at (known s) f.definition.local ≡ None → local ≡ f.definition.local)
    → ((k : ℕ) → k < limit_of offset → defined_at (known s) k ≡ None → defined_at (known s) local ≡ None)
    → Fits (known (Define (with_local f.definition local) ∷ s)) (Data (values_by f block local offset))
    → IsTold s f block offset (Data (values_by f block local offset) ∷ Define (with_local f.definition local) ∷ s)
told_both s local f block offset few same none own free fits = record {
  defined = Some (with_local f.definition local);
  message = values_by f block local offset;
  records = refl;
  fits = fits;
  told = read_there (Define (with_local f.definition local) ∷ s) local f block offset _
      (says_own s f local few same)
      ∙ ap Some (same_after s (with_local f.definition local) f block offset);
  offset_is = refl;
  seated = record {
    own = λ p less there. absurd (none f.definition.local p less there);
    fresh = λ d is. none;
    defines = λ d is. (sym (some_is (with_local f.definition local) d is), same);
    own_free = λ d is. own;
    free = λ d is. free;
  };
}
  where
    some_is : (a b : MessageDef Global) → Some a ≡ Some b → a ≡ b
    some_is a b is = cc

some_same : (a b : ℕ) → Some a ≡ Some b → a ≡ b
some_same a b is = cc

pub own_found : (s : List (Record Global)) (f : Form) (found : Option ℕ) (local limit : ℕ) (offset : Option ℕ) → found ≡ Some local
    → limit ≡ limit_of offset
    → ((p : Defined Global) → f.definition.local < limit → SaysSame s f.definition.local f p → found ≡ Some f.definition.local)
    → (p : Defined Global) → f.definition.local < limit_of offset → SaysSame s f.definition.local f p → local ≡ f.definition.local
own_found s f found local limit offset is same own p less says =
    some_same local f.definition.local (sym is ∙ own p (subst (λ (n : ℕ). f.definition.local < n) (sym same) less) says)

pub under : (n limit : ℕ) (offset : Option ℕ) → limit ≡ limit_of offset → n < limit_of offset → n < limit
under n limit offset is less = subst (λ (k : ℕ). n < k) (sym is) less

-- why it wasn't
pub unplaced : (s : List (Record Global)) (f : Form) (block : List ℕ) (offset : Option ℕ) (after : List (Record Global)) (why : Refusal)
    → IsTold s f block offset after → IsUnput after why → IsUnplaced s f block offset why
unplaced s f block offset after TooLong told long = (after, told, long)
unplaced s f block offset after NoMemory told h = tt
unplaced s f block offset after NoFile told h = absurd h
unplaced s f block offset after (Block reason) told h = absurd h
unplaced s f block offset after (Message reason) told h = absurd h
unplaced s f block offset after TooManyFiles told h = absurd h
unplaced s f block offset after Full told h = absurd h
unplaced s f block offset after Time told h = absurd h
unplaced s f block offset after Described told h = absurd h

-- ---- times

abbrev at_time : Reading → Option ℕ → Reading
at_time r o = record { global = r.global; fields = r.fields; dev = r.dev; time = o }

-- without a form for its own time, the time of the message is that of its block
own_or_none : (own time : Option ℕ) → ((t : ℕ) → time ≡ Some t → own ≡ None → ⊥) → or_else own None ≡ or_else own time
own_or_none (Some t) time h = refl
own_or_none None None h = refl
own_or_none None (Some t) h = absurd (h t refl refl)

plain_told : (s : List (Record Global)) (f : Form) (block : List ℕ) (offset : Option ℕ) → ((t : ℕ) → LosesTime f block (is_some offset) t → ⊥)
    → IsKeptOffset s block offset → or_else (fields_time f block) (header_time (previous_time s) offset) ≡ or_else (fields_time f block) (header_time_in block)
plain_told s f block (Some o) never kept = ap (or_else (fields_time f block)) kept.same
plain_told s f block None never kept =
    own_or_none (fields_time f block) (header_time_in block) (λ t told alone. never t (record { lost = refl; told = told; alone = alone }))

valid : (n t : ℕ) → n ≡ t → t < 0xFFFFFFFF → valid_time n ≡ Some t
valid n t is less = ap valid_time is ∙ ap (λ (b : Bool). cond b (Some t) None) (ltb-true' t less)
  where
    ltb-true' : (t : ℕ) → t < 0xFFFFFFFF → nat_lt t 0xFFFFFFFF ≡ true
    ltb-true' t less = grind (arith, less)

-- the time is that of four bytes
header_bytes : (b : Bool) (n t : ℕ) → cond b (Some n) None ≡ Some t → n ≡ t
header_bytes true n t is = cc
header_bytes false n t is = cc

dated_time : (f : Form) (block : List ℕ) (t : ℕ) → header_time_in block ≡ Some t → t < 0xFFFFFFFF → fields_time (dated f) block ≡ Some t
dated_time f block t told less = valid (number_read 4 32 block) t (header_bytes _ (number_read 4 32 block) t told) less

same_told : (s : List (Record Global)) (f g : Form) (block : List ℕ) (offset : Option ℕ) → IsChosen f block (is_some offset) g → IsKeptOffset s block offset
    → told_after s g block offset ≡ said_reading g block
same_told s f g block offset (inl (never, same)) kept =
    ap (at_time (said_reading g block)) (plain_told s g block offset
    (subst (λ (h : Form). (t : ℕ) → LosesTime h block (is_some offset) t → ⊥) (sym same) never) kept)
same_told s f g block offset (inr (t, loses, few, less, same)) kept =
    let own : fields_time g block ≡ Some t = ap (λ (h : Form). fields_time h block) same ∙ dated_time f block t loses.told less in
    ap (at_time (said_reading g block)) (ap (λ (o : Option ℕ). or_else o (header_time (previous_time s) offset)) own
    ∙ sym (ap (λ (o : Option ℕ). or_else o (header_time_in block)) own))

-- ---- why it can't be put

keeps : (s : List (Record Global)) (block : List ℕ) (offset : Option ℕ) → IsKeptOffset s block offset → is_some offset ≡ true → KeepsOffset s block
keeps s block (Some o) kept is = record { offset = o; is = kept.is; same = kept.same }
keeps s block None kept is = absurd (cc is)

needs : (s : List (Record Global)) (f : Form) (block : List ℕ) (offset : Option ℕ) (t : ℕ) → IsKeptOffset s block offset → LosesTime f block (is_some offset) t
    → NeedsTimestamp s f block t
needs s f block None t kept loses = record { lost = kept.none refl; told = loses.told; alone = loses.alone }
needs s f block (Some o) t kept loses = absurd (cc (loses.lost))

loses_by : (s : List (Record Global)) (f : Form) (block : List ℕ) (offset : Option ℕ) (t : ℕ) → IsKeptOffset s block offset → NeedsTimestamp s f block t
    → LosesTime f block (is_some offset) t
loses_by s f block None t kept n = record { lost = refl; told = n.told; alone = n.alone }
loses_by s f block (Some o) t kept n = absurd (n.lost (keeps s block (Some o) kept refl))

pub is_needed : (s : List (Record Global)) (f g : Form) (block : List ℕ) (offset : Option ℕ) → IsKeptOffset s block offset → IsChosen f block (is_some offset) g
    → IsNeeded s f block g
is_needed s f g block offset kept (inl (never, same)) = inl (λ t n. never t (loses_by s f block offset t kept n), same)
is_needed s f g block offset kept (inr (t, loses, few, less, same)) = inr (t, needs s f block offset t kept loses, few, less, same)

-- of the form that it needs
pub refused_form : (s : List (Record Global)) (f : Form) (block : List ℕ) (offset : Option ℕ) (first : Option BlockReason) (why : Refusal) → first ≡ None
    → IsKeptOffset s block offset → IsUnchosen f block (is_some offset) why → IsRefusedPut s f block first why
refused_form s f block offset first Full none kept (t, loses, many) = (none, (t, needs s f block offset t kept loses, many))
refused_form s f block offset first Time none kept (loses, few) = (none, (needs s f block offset 0xFFFFFFFF kept loses, few))
refused_form s f block offset first NoMemory none kept h = tt
refused_form s f block offset first NoFile none kept h = absurd h
refused_form s f block offset first (Block reason) none kept h = absurd h
refused_form s f block offset first (Message reason) none kept h = absurd h
refused_form s f block offset first TooManyFiles none kept h = absurd h
refused_form s f block offset first Described none kept h = absurd h
refused_form s f block offset first TooLong none kept h = absurd h

within : (s : List (Record Global)) (block : List ℕ) (offset : Option ℕ) (local : ℕ) → IsKeptOffset s block offset → local < 16
    → (KeepsOffset s block → local < 4) → local < limit_of offset
within s block (Some o) local kept few four = four (keeps s block (Some o) kept refl)
within s block None local kept few four = few

-- ---- a message in the form that it needs

offset_kept : (s : List (Record Global)) (block : List ℕ) (offset : Option ℕ) → IsKeptOffset s block offset → KeepsOffset s block
    → offset ≡ offset_in block
offset_kept s block (Some o) kept k = sym kept.is
offset_kept s block None kept k = absurd (kept.none refl k)

no_offset : (s : List (Record Global)) (block : List ℕ) (offset : Option ℕ) → IsKeptOffset s block offset → (KeepsOffset s block → ⊥) → offset ≡ None
no_offset s block (Some o) kept lost = absurd (lost (keeps s block (Some o) kept refl))
no_offset s block None kept lost = refl

placed_as : (s t : List (Record Global)) (g : Form) (block : List ℕ) (offset : Option ℕ) (defined : Option (MessageDef Global)) (local : ℕ)
    → IsKeptOffset s block offset → IsSeated t g (limit_of offset) defined local → IsPlaced t g (CanName s block) defined local
placed_as s t g block offset defined local kept seated = record {
  own = λ p names same. seated.own p (within s block offset g.definition.local kept names.0 names.1) same;
  fresh = λ d is k p names same. seated.fresh d is k p (within s block offset k kept names.0 names.1) same;
  defines = λ d is. seated.defines d is;
  own_free = λ d is names none. seated.own_free d is (within s block offset g.definition.local kept names.0 names.1) none;
  free = λ d is k names none. seated.free d is k (within s block offset k kept names.0 names.1) none;
}

-- ---- descriptions before it

needs_as : (s : List (Record Global)) (g : Form) (block : List ℕ) (offset : Option ℕ) → IsKeptOffset s block offset
    → NeedsDescriptions s g (λ k. k < limit_of offset) → NeedsDescriptions s g (CanName s block)
needs_as s g block offset kept needs = (needs.0, λ local p names same. needs.1 local p (within s block offset local kept names.0 names.1) same)

before_as : (s t : List (Record Global)) (g : Form) (block : List ℕ) (offset : Option ℕ) → IsKeptOffset s block offset
    → DescribesBefore s t g (λ k. k < limit_of offset) → DescribesBefore s t g (CanName s block)
before_as s t g block offset kept (inl same) = inl same
before_as s t g block offset kept (inr (needs, form)) = inr (needs_as s g block offset kept needs, form)

pub part_as : (s t : List (Record Global)) (g : Form) (block : List ℕ) (offset : Option ℕ) → IsKeptOffset s block offset
    → DescribesPart s t g (λ k. k < limit_of offset) → DescribesPart s t g (CanName s block)
part_as s t g block offset kept (needs, some) = (needs_as s g block offset kept needs, some)

pub defines_as : (s t : List (Record Global)) (g : Form) (block : List ℕ) (offset : Option ℕ) → IsKeptOffset s block offset
    → DefinesPart s t g (λ k. k < limit_of offset) → DefinesPart s t g (CanName s block)
defines_as s t g block offset kept (inl puts) = inl puts
defines_as s t g block offset kept (inr (described, part, more)) = inr (described, part_as s described g block offset kept part, more)

-- messages that describe leave the time as it was
told_then : (s t : List (Record Global)) (g : Form) (block : List ℕ) (offset : Option ℕ) → DescribesBefore s t g (λ k. k < limit_of offset)
    → told_after t g block offset ≡ told_after s g block offset
told_then s t g block offset describes =
    ap (λ (o : Option ℕ). at_time (said_reading g block) (or_else (fields_time g block) (header_time o offset)))
    (same_time s t g (λ k. k < limit_of offset) describes)

pub put_as : (s : List (Record Global)) (f g : Form) (block : List ℕ) (offset : Option ℕ) (after : List (Record Global))
    → IsChosen f block (is_some offset) g → IsKeptOffset s block offset → IsToldAfter s g block offset after → IsPut s after f block
put_as s f g block offset after chosen kept is = record {
  form = g;
  needed = is_needed s f g block offset kept chosen;
  described = is.described;
  describes = before_as s is.described g block offset kept is.describes;
  defined = is.told.defined;
  message = is.told.message;
  records = is.told.records;
  fits = is.told.fits;
  told = is.told.told ∙ ap Some (told_then s is.described g block offset is.describes ∙ same_told s f g block offset chosen kept);
  kept = λ k. is.told.offset_is ∙ offset_kept s block offset kept k;
  without = λ lost. is.told.offset_is ∙ no_offset s block offset kept lost;
  placed = placed_as s is.described g block offset is.told.defined is.told.message.local kept is.told.seated;
}

-- of the place
pub refused_place : (s : List (Record Global)) (f g : Form) (block : List ℕ) (offset : Option ℕ) (first : Option BlockReason) (why : Refusal)
    → first ≡ None → IsKeptOffset s block offset → IsChosen f block (is_some offset) g
    → IsUnneeded s g block offset why → IsRefusedPut s f block first why
refused_place s f g block offset first Described none kept chosen (needs, never) =
    (none, (g, is_needed s f g block offset kept chosen, needs_as s g block offset kept needs, never))
refused_place s f g block offset first TooLong none kept chosen (after, inl told, long) =
    (none, (after, inl (put_as s f g block offset after chosen kept told), long))
refused_place s f g block offset first TooLong none kept chosen (after, inr part, long) =
    (none, (after, inr (g, is_needed s f g block offset kept chosen, part_as s after g block offset kept part), long))
refused_place s f g block offset first NoMemory none kept chosen h = tt
refused_place s f g block offset first NoFile none kept chosen h = absurd h
refused_place s f g block offset first (Block reason) none kept chosen h = absurd h
refused_place s f g block offset first (Message reason) none kept chosen h = absurd h
refused_place s f g block offset first TooManyFiles none kept chosen h = absurd h
refused_place s f g block offset first Full none kept chosen h = absurd h
refused_place s f g block offset first Time none kept chosen h = absurd h
