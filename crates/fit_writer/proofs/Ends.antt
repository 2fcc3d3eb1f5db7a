-- Results of calls that are handed on.
use Rattle.std.proofs.Common.{◌≡◌, ℕ, ◌<◌, inl, inr, List, subst}
use Rattle.std.specs.Global.{Global}
use Rattle.std.specs.Prelude.{Option, None, Result, Ok, Err, IfErr, OnErr, OnOk, is_some}
use Rattle.fit_record.specs.declared.definition.MessageDef.{MessageDef}
use Rattle.fit_record.specs.declared.message.Record.{Record}
use Rattle.fit_from_messages.specs.declared.fault.BlockReason.{BlockReason}
use Rattle.fit_writer.proofs.DescribedPuts.{half_at_once, ok_at_once, why_at_once}
use Rattle.fit_writer.proofs.Puts.{defines_as, is_needed, part_as, put_as, refused_place, unplaced}
use Rattle.fit_writer.specs.Reading.{Form}
use Rattle.fit_writer.specs.declared.file.OpenFile.{OpenFile}
use Rattle.fit_writer.specs.declared.refusal.Refusal.{Refusal}
use Rattle.fit_writer.specs.declared.refusal.Refusal.TheVariants.{NoFile, Block, Message, TooManyFiles, Full, Time, Described, TooLong, NoMemory}
use Rattle.fit_writer.specs.inner.OpenFiles.{IsHalf, IsHalfPut, IsUnput, current_of, current_with}
use Rattle.fit_writer.specs.Written.{DefinesPart, DescribesPart, PutsDefining, PutsHalf, PutsPart}
use Rattle.fit_writer.specs.inner.Puts.{IsChosen, IsHalfNeeded, IsHalfPutInto, IsKeptOffset, IsPartly, IsPutInto, IsRefusedPut, IsTold, IsToldAfterIn}
use Rattle.fit_writer.specs.inner.Puts.{IsToldIn, IsUnneeded, IsUnplaced, limit_of}

pub half_kept : (old new : OpenFile) (may : List (Record Global) → Type 0) (why : Refusal) → current_of new ≡ current_of old → IsHalf old new may why
half_kept old new may NoMemory same = inl same
half_kept old new may NoFile same = same
half_kept old new may (Block reason) same = same
half_kept old new may (Message reason) same = same
half_kept old new may TooManyFiles same = same
half_kept old new may Full same = same
half_kept old new may Time same = same
half_kept old new may Described same = same
half_kept old new may TooLong same = same

pub err_half : (old new : OpenFile) (d : MessageDef Global) (r : Result (Unit {0}) Refusal) → OnErr r (current_of new ≡ current_of old)
    → IfErr r (IsHalfPut old new d)
err_half old new d (Ok x) same = tt
err_half old new d (Err why) same = half_kept old new (λ after. PutsDefining old.stream after d) why same

partly_weaker : (old new : OpenFile) (a b c d : List (Record Global) → Type 0) (why : Refusal) → ((after : List (Record Global)) → a after → c after)
    → ((after : List (Record Global)) → b after → d after) → IsPartly old new a b why → IsPartly old new c d why
partly_weaker old new a b c d TooLong part half (inl same) = inl same
partly_weaker old new a b c d TooLong part half (inr (after, is, now)) = inr (after, part after is, now)
partly_weaker old new a b c d NoMemory part half (inl same) = inl same
partly_weaker old new a b c d NoMemory part half (inr (after, is, now)) = inr (after, half after is, now)
partly_weaker old new a b c d NoFile part half same = same
partly_weaker old new a b c d (Block reason) part half same = same
partly_weaker old new a b c d (Message reason) part half same = same
partly_weaker old new a b c d TooManyFiles part half same = same
partly_weaker old new a b c d Full part half same = same
partly_weaker old new a b c d Time part half same = same
partly_weaker old new a b c d Described part half same = same

-- of a message
pub err_into : (old new : OpenFile) (f g : Form) (block : List ℕ) (offset : Option ℕ) (r : Result (Unit {0}) Refusal)
    → IsChosen f block (is_some offset) g → IsKeptOffset old.stream block offset → IfErr r (IsHalfNeeded old new g (limit_of offset))
    → IfErr r (IsHalfPutInto old new f block)
err_into old new f g block offset (Ok x) chosen kept h = tt
err_into old new f g block offset (Err why) chosen kept h =
    partly_weaker old new (λ after. DescribesPart old.stream after g (λ k. k < limit_of offset)) (λ after. DefinesPart old.stream after g
    (λ k. k < limit_of offset))
    (λ after. PutsPart old.stream after f block) (λ after. PutsHalf old.stream after f block) why
    (λ after is. (g, is_needed old.stream f g block offset kept chosen, part_as old.stream after g block offset kept is))
    (λ after is. (g, is_needed old.stream f g block offset kept chosen, defines_as old.stream after g block offset kept is)) h

pub ok_told : (old new : OpenFile) (f : Form) (block : List ℕ) (offset : Option ℕ) (after : List (Record Global)) (r : Result (Unit {0}) Refusal)
    → IsTold old.stream f block offset after → OnOk r (current_of new ≡ current_with old after) → OnOk r (IsToldIn old new f block offset)
ok_told old new f block offset after (Ok x) told is = (after, told, is)
ok_told old new f block offset after (Err why) told is = tt

pub err_unplaced : (s : List (Record Global)) (f : Form) (block : List ℕ) (offset : Option ℕ) (after : List (Record Global)) (r : Result (Unit {0}) Refusal)
    → IsTold s f block offset after → IfErr r (IsUnput after) → IfErr r (IsUnplaced s f block offset)
err_unplaced s f block offset after (Ok x) told h = tt
err_unplaced s f block offset after (Err why) told h = unplaced s f block offset after why told h

-- of a message whose definition is known to be there
pub ok_known : (old new : OpenFile) (f : Form) (block : List ℕ) (offset : Option ℕ) (after : List (Record Global)) (r : Result (Unit {0}) Refusal)
    → IsTold old.stream f block offset after → OnOk r (current_of new ≡ current_with old after) → OnOk r (IsToldAfterIn old new f block offset)
ok_known old new f block offset after (Ok x) told is = ok_at_once old new f block offset (after, told, is)
ok_known old new f block offset after (Err why) told is = tt

pub err_known : (old new : OpenFile) (f : Form) (limit : ℕ) (r : Result (Unit {0}) Refusal) → OnErr r (current_of new ≡ current_of old)
    → IfErr r (IsHalfNeeded old new f limit)
err_known old new f limit (Ok x) same = tt
err_known old new f limit (Err why) same =
    half_at_once old new f limit why (half_kept old new (λ after. PutsDefining old.stream after f.definition) why same)

pub refused_known : (s : List (Record Global)) (f : Form) (block : List ℕ) (offset : Option ℕ) (after : List (Record Global)) (r : Result (Unit {0}) Refusal)
    → IsTold s f block offset after → IfErr r (IsUnput after) → IfErr r (IsUnneeded s f block offset)
refused_known s f block offset after (Ok x) told h = tt
refused_known s f block offset after (Err why) told h =
    why_at_once s f block offset why (λ is. subst (IsUnput after) is h) (unplaced s f block offset after why told h)

pub ok_put : (old new : OpenFile) (f g : Form) (block : List ℕ) (offset : Option ℕ) (r : Result (Unit {0}) Refusal) → IsChosen f block (is_some offset) g
    → IsKeptOffset old.stream block offset → OnOk r (IsToldAfterIn old new g block offset) → OnOk r (IsPutInto old new f block)
ok_put old new f g block offset (Ok x) chosen kept (after, told, is) = (after, put_as old.stream f g block offset after chosen kept told, is)
ok_put old new f g block offset (Err why) chosen kept h = tt

pub err_refused : (s : List (Record Global)) (f g : Form) (block : List ℕ) (offset : Option ℕ) (first : Option BlockReason)
    (r : Result (Unit {0}) Refusal) → first ≡ None → IsKeptOffset s block offset
    → IsChosen f block (is_some offset) g → IfErr r (IsUnneeded s g block offset) → IfErr r (IsRefusedPut s f block first)
err_refused s f g block offset first (Ok x) none kept chosen h = tt
err_refused s f g block offset first (Err why) none kept chosen h = refused_place s f g block offset first why none kept chosen h
