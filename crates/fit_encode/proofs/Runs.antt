-- A run of bytes, of which the first went out.
use Rattle.fit_encode.proofs.Common.{◌≡◌, ℕ, ◌<◌, ◌≤◌, Bool, false, List, [], ◌∷◌, ◌++◌, length, take, drop, refl, sym, ap, ◌∙◌, append_assoc, append-nil}
use Rattle.fit_encode.proofs.Common.{arith, take-append-drop, nil_from_length, length-take, Appends, Written, Sending, Spells, IsCounted}
use Rattle.std.proofs.Common.{◌+◌, length-drop}
use Rattle.std.proofs.lemmas.List.{take-take, take-append-le, drop-append-le, length-take-le}

-- the bytes before the run, those of it that went out, and the others
pub run_parts : (gone used : ℕ) (sum run : List ℕ) → gone ≤ used → sum ++ take used run ≡ (sum ++ take gone run) ++ drop gone (take used run)
run_parts gone used sum run h =
    let held : List ℕ = drop gone (take used run) in
    let whole : take gone run ++ held ≡ take used run =
    ap (λ (x : List ℕ). x ++ held) (sym (take-take gone used run h)) ∙ take-append-drop gone (take used run) in
    ap (λ (x : List ℕ). sum ++ x) (sym whole) ∙ sym (append_assoc sum (take gone run) held)

-- all of it went out
pub all_gone : (gone used : ℕ) (sum run : List ℕ) → gone ≤ used → used ≤ length run → drop gone (take used run) ≡ []
    → (sum ++ take used run) ++ [] ≡ sum ++ take gone run
all_gone gone used sum run h room none =
    append-nil (sum ++ take used run) ∙ run_parts gone used sum run h ∙ ap (λ (x : List ℕ). (sum ++ take gone run) ++ x) none
    ∙ append-nil (sum ++ take gone run)

-- Bytes are put at its end.
pub run_longer : (gone used end : ℕ) (old new bytes : List ℕ) → gone ≤ used → used ≤ length old → end ≡ used + length bytes
    → take end new ≡ take used old ++ bytes
    → (take gone new ≡ take gone old) × (drop gone (take end new) ≡ drop gone (take used old) ++ bytes)
run_longer gone used end old new bytes h room ends written =
    let long : length (take used old) ≡ used = length-take-le used old room in (
      sym (take-take gone end new (omega (arith, ends))) ∙ ap (take gone) written ∙ take-append-le gone (take used old) bytes (omega (arith, long))
          ∙ take-take gone used old h,
      ap (drop gone) written ∙ drop-append-le gone (take used old) bytes (omega (arith, long)),
    )

-- nothing of it is held back
pub none_left : (used : ℕ) (run : List ℕ) → drop used (take used run) ≡ []
none_left used run = nil_from_length (drop used (take used run)) (omega (arith, length-drop used (take used run), length-take used run))

-- where some bytes went out, or none were to
keeps_on : (held : List ℕ) {x y : Bool} → (0 < length held → y ≡ false) → (held ≡ [] → y ≡ x) → x ≡ false → y ≡ false
keeps_on [] some none good = none refl ∙ good
keeps_on (b ∷ held) some none good = some (omega arith)

-- all that was held back went out
pub Spells-sent : {a b : Written} {s : Sending} (t : Sending) (held : List ℕ) → held ≡ s.held → Appends a.held b.held held → t.sent ≡ s.sent ++ held
    → t.held ≡ [] → IsCounted s.count (length held) t.count → (0 < length held → b.failed ≡ false) → (held ≡ [] → b.failed ≡ a.failed) → Spells a b s t []
Spells-sent {a} {b} {s} t held is appended sent none total works same = record {
  went = held;
  appended = appended;
  sent = sent;
  joined = ap (λ (x : List ℕ). held ++ x) none ∙ append-nil held ∙ is ∙ sym (append-nil s.held);
  total = total;
  works = works;
  keeps = keeps_on held works same;
}

abbrev pub sending : List ℕ → List ℕ → ℕ → ℕ → Sending
sending sent held count room = record { sent = sent; held = held; count = count; room = room }

pub same_sending : {s t h k : List ℕ} {m n room : ℕ} → s ≡ t → h ≡ k → m ≡ n → sending s h m room ≡ sending t k n room
same_sending a b c = rw (a, b, c) refl
