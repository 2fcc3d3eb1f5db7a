-- What runs of messages come to: one message more, and the same of all that was written.
use Rattle.std.proofs.Common.{◌≡◌, ◌∙◌, ◌+◌, ℕ, inl, inr, true, Bool, cond, List, [], ◌∷◌, ◌++◌, length, refl, sym, ap, subst, arith, length-append}
use Rattle.std.specs.Global.{Global}
use Rattle.std.specs.Prelude.{None, Some, ◌==◌, ◌&&◌, ◌↔◌, IsTrue, Result, Ok, Err, IfErr, IfOk, OnOk}
use Rattle.fit_record.specs.declared.file.FitFile.{FitFile}
use Rattle.fit_record.specs.declared.message.Record.{Record}
use Rattle.fit_from_messages.proofs.ReadChains.{joined_more}
use Rattle.fit_from_messages.specs.Alone.{why_no_lone_definition}
use Rattle.fit_from_messages.specs.Parts.{slots_in}
use Rattle.fit_from_messages.specs.SaysChain.{IsBlock, joined_blocks}
use Rattle.fit_writer.proofs.Calls.{keeps_all, puts_message, refusal_at}
use Rattle.fit_writer.specs.Reading.{Form, form_in}
use Rattle.fit_writer.specs.Runs.{IsNextRefused, PutsEach, PutsMessages, PutsRun, StopsRun}
use Rattle.fit_writer.specs.Written.{Current, IsPut, Writing}
use Rattle.fit_writer.proofs.ReadAmounts.{told_more}
use Rattle.fit_writer.specs.Amounts.{Amounts, amounts_by, has_amounts, latest_amounts}
use Rattle.fit_writer.specs.declared.done.Run.{Run}
use Rattle.fit_writer.specs.declared.file.OpenFile.{OpenFile}
use Rattle.fit_writer.specs.declared.refusal.Refusal.{Refusal}
use Rattle.fit_writer.specs.declared.refusal.RunRefusal.{RunRefusal}
use Rattle.fit_writer.specs.inner.OpenFiles.{current_of, writing_of}
use Rattle.fit_writer.specs.inner.Puts.{IsPutInto}
use Rattle.fit_writer.specs.inner.Kept.{IsRunOfBlock}
use Rattle.fit_writer.specs.inner.Runs.{HasRunInto, IsFirstRefused, PutsEachInto}

-- ---- one message more

put_after : (old between new : OpenFile) (f : Form) (block : List ℕ) → current_of between ≡ current_of old → IsPutInto between new f block
    → IsPutInto old new f block
put_after old between new f block same (after, put, now) = (
  after,
  subst (λ (before : List (Record Global)). IsPut before after f block) (ap (λ (c : Current). c.records) same) put,
  now ∙ ap (λ (c : Current). let d : Current = record { header = c.header; records = after } in d) same,
)

each_more : (old between new : OpenFile) (f : Form) (blocks : List (List ℕ)) (read : List Amounts) (block : List ℕ) → PutsEachInto old between f blocks read
    → IsBlock block → IsPutInto between new f block → PutsEachInto old new f (blocks ++ block ∷ []) (read ++ latest_amounts new.stream ∷ [])
each_more old between new f [] [] block same is put = (is, new, put_after old between new f block same put, refl, refl)
each_more old between new f (b ∷ blocks) (a ∷ read) block (first, mid, one, told, rest) is put =
    (first, mid, one, told, each_more mid between new f blocks read block rest is put)
each_more old between new f [] (a ∷ read) block none is put = absurd none
each_more old between new f (b ∷ blocks) [] block none is put = absurd none

each_long : (old new : OpenFile) (f : Form) (blocks : List (List ℕ)) (read : List Amounts) → PutsEachInto old new f blocks read → length read ≡ length blocks
each_long old new f [] [] same = refl
each_long old new f (b ∷ blocks) (a ∷ read) (first, mid, one, told, rest) = omega (arith, each_long mid new f blocks read rest)
each_long old new f [] (a ∷ read) none = absurd none
each_long old new f (b ∷ blocks) [] none = absurd none

pub run_more : (old between new : OpenFile) (f : Form) (has : Bool) (bytes rest left block : List ℕ) (count n : ℕ) (is_told : Bool)
    → HasRunInto old between f has bytes count n rest → IsBlock block → rest ≡ block ++ left → IsPutInto between new f block
    → (IsTrue is_told ↔ (latest_amounts new.stream ≡ amounts_by has block))
    → HasRunInto old new f has bytes (count + 1) (cond ((n == count) && is_told) (count + 1) n) left
run_more old between new f has bytes rest left block count n is_told h is begins put iff = record {
  blocks = h.blocks ++ block ∷ [];
  are_joined = h.are_joined ∙ ap (λ x. joined_blocks h.blocks ++ x) begins ∙ sym (joined_more h.blocks block left);
  counted = omega (arith, h.counted, length-append h.blocks (block ∷ []));
  few = omega (arith, h.few, ap length begins, length-append block left, is.front);
  read = h.read ++ latest_amounts new.stream ∷ [];
  put = each_more old between new f h.blocks h.read block h.put is put;
  told = told_more has h.blocks h.read block n count (latest_amounts new.stream) is_told
      (h.counted ∙ sym (each_long old between f h.blocks h.read h.put)) h.told iff;
}

-- ---- of all that was written

each_written : (files : List (FitFile Global)) (old new : OpenFile) (f : Form) (blocks : List (List ℕ)) (read : List Amounts)
    → PutsEachInto old new f blocks read → PutsEach (writing_of files true old) (writing_of files true new) f blocks read
each_written files old new f [] [] same = ap (λ (c : Current). let w : Writing = record { files = files; current = Some c } in w) same
each_written files old new f (block ∷ blocks) (a ∷ read) (is, between, put, told, rest) =
    (is, writing_of files true between, puts_message files old between f f block refl put, told, each_written files between new f blocks read rest)
each_written files old new f [] (a ∷ read) none = absurd none
each_written files old new f (block ∷ blocks) [] none = absurd none

run_written : (files : List (FitFile Global)) (old new : OpenFile) (f : Form) (has : Bool) (bytes : List ℕ) (count n place : ℕ) (rest : List ℕ)
    → length bytes ≡ place + length rest → HasRunInto old new f has bytes count n rest
    → PutsRun (writing_of files true old) (writing_of files true new) f has bytes count n place rest
run_written files old new f has bytes count n place rest at h = record {
  blocks = h.blocks;
  are_joined = h.are_joined;
  counted = h.counted;
  at = omega (arith, at, ap length h.are_joined, length-append (joined_blocks h.blocks) rest);
  read = h.read;
  put = each_written files old new f h.blocks h.read h.put;
  told = h.told;
}

next_written : (files : List (FitFile Global)) (old new : OpenFile) (definition rest : List ℕ) (why : Refusal) → why_no_lone_definition definition ≡ None
    → IsFirstRefused old new (form_in definition) rest why → IsNextRefused (writing_of files true old) (writing_of files true new) definition rest why
next_written files old new definition rest why stands (inl (some, none, cut, kept)) =
    inl (some, none, cut, ap (λ (c : Current). let w : Writing = record { files = files; current = Some c } in w) kept)
next_written files old new definition rest why stands (inr (block, more, is, begins, refused, half)) = inr (
  block,
  more,
  is,
  begins,
  refusal_at (current_of old) definition block (form_in definition) (slots_in definition) why stands refl refl refused,
  keeps_all files old new (form_in definition) (form_in definition) block why refl half,
)

all_written : (files : List (FitFile Global)) (old new : OpenFile) (definition bytes : List ℕ) (run : Run) → why_no_lone_definition definition ≡ None
    → HasRunInto old new (form_in definition) (has_amounts definition) bytes run.count run.accumulated []
    → PutsMessages (writing_of files true old) (writing_of files true new) definition bytes run
all_written files old new definition bytes run stands h = (
  stands,
  run_written files old new (form_in definition) (has_amounts definition) bytes run.count run.accumulated (length bytes) [] (omega arith) h,
)

stop_written : (files : List (FitFile Global)) (old new : OpenFile) (definition bytes : List ℕ) (stop : RunRefusal)
    → IsRunOfBlock old new definition bytes stop → StopsRun (writing_of files true old) (writing_of files true new) definition bytes stop
stop_written files old new definition bytes stop (inl (kept, count, n, place, barred)) =
    inl (ap (λ (c : Current). let w : Writing = record { files = files; current = Some c } in w) kept, count, n, place, barred)
stop_written files old new definition bytes stop (inr (stands, h)) = inr (record {
  between = writing_of files true h.between;
  rest = h.rest;
  stands = stands;
  run = run_written files old h.between (form_in definition) (has_amounts definition) bytes stop.count stop.accumulated stop.place h.rest h.at h.run;
  next = next_written files h.between new definition h.rest stop.refusal stands h.next;
})

-- ---- results that are handed on

pub ok_run : (w : Writing) (files : List (FitFile Global)) (is_open : Bool) (old new : OpenFile) (definition bytes : List ℕ) (r : Result Run RunRefusal)
    → writing_of files is_open old ≡ w → is_open ≡ true → OnOk r (why_no_lone_definition definition ≡ None)
    → IfOk r (λ run. HasRunInto old new (form_in definition) (has_amounts definition) bytes run.count run.accumulated [])
    → IfOk r (PutsMessages w (writing_of files is_open new) definition bytes)
ok_run w files is_open old new definition bytes (Err stop) view is stands h = tt
ok_run w files is_open old new definition bytes (Ok run) view is stands h =
    subst (λ (b : Bool). PutsMessages w (writing_of files b new) definition bytes run) (sym is)
    (subst (λ (v : Writing). PutsMessages v (writing_of files true new) definition bytes run)
    (ap (λ (b : Bool). writing_of files b old) (sym is) ∙ view) (all_written files old new definition bytes run stands h))

pub err_run : (w : Writing) (files : List (FitFile Global)) (is_open : Bool) (old new : OpenFile) (definition bytes : List ℕ) (r : Result Run RunRefusal)
    → writing_of files is_open old ≡ w → is_open ≡ true → IfErr r (IsRunOfBlock old new definition bytes)
    → IfErr r (StopsRun w (writing_of files is_open new) definition bytes)
err_run w files is_open old new definition bytes (Ok run) view is h = tt
err_run w files is_open old new definition bytes (Err stop) view is h =
    subst (λ (b : Bool). StopsRun w (writing_of files b new) definition bytes stop) (sym is)
    (subst (λ (v : Writing). StopsRun v (writing_of files true new) definition bytes stop)
    (ap (λ (b : Bool). writing_of files b old) (sym is) ∙ view) (stop_written files old new definition bytes stop h))
