-- The text of what was heard, in a sink.
use Rattle.fit_report.proofs.Common.{◌≡◌, ℕ, ◌+◌, List, [], ◌++◌, length, take, reverse, Option, Some, None, Ok, Err, sym, ap, subst, arith, length-append}
use Rattle.fit_report.proofs.Common.{Appends}
use Rattle.fit_report.proofs.Common.{append-nil, take-append-add, Answer, Event, AreEvents, ReportFault, Decode, NoMemory, Write, Lines, hear, line_of, text_of}
use Rattle.fit_report.proofs.Common.{refl, ◌∙◌, Channel, Stands, Puts, Stops, chain_limit, IsViable, append_assoc}
use Rattle.fit_chain.specs.declared.event.Event.TheVariants as answers
use Rattle.fit_encode.proofs.Written.{Appends-on}

pub Appends-nothing : (a : Option (List ℕ)) → Appends a a []
Appends-nothing None = tt
Appends-nothing (Some x) = sym (append-nil x)

text-hear : {A : Type 0} (line : Lines A) (heard : List (Event A)) (answer : Answer A)
    → text_of line (hear answer heard) ≡ text_of line heard ++ line_of line heard answer
text-hear line heard answers.More = sym (append-nil (text_of line heard))
text-hear line heard (answers.Header h n) = refl
text-hear line heard (answers.Item r) = refl
text-hear line heard answers.FileEnd = refl

-- `put` is the text of an answer where no text stood before.
pub text_told : {A : Type 0} (line : Lines A) (heard : List (Event A)) (answer : Answer A) (first text put : List ℕ) → first ≡ []
    → text ≡ first ++ line_of line heard answer → put ≡ text → text_of line (hear answer heard) ≡ text_of line heard ++ put
text_told line heard answer first text put none told is =
    text-hear line heard answer ∙ ap (λ t. text_of line heard ++ t) (sym (is ∙ told ∙ ap (λ t. t ++ line_of line heard answer) none))

-- No event more was told.
pub stands_more : {A R : Type 0} {has_heard : R → List (Event A) → Type 0} {line : Lines A} {reporter : R} {bytes told : List ℕ}
    {start now : Option (List ℕ)} {written : ℕ} (more : List ℕ)
    → ((heard : List (Event A)) → AreEvents bytes (reverse heard) → AreEvents more (reverse heard))
    → Stands has_heard line reporter bytes told start now written → Stands has_heard line reporter more told start now written
stands_more more still s = record {
  heard = s.heard;
  has = s.has;
  are = still s.heard s.are;
  text = s.text;
  is_text = s.is_text;
  put = s.put;
  counted = s.counted;
}

-- A text was put, or in part, of events after those that were told.
module _ {A R : Type 0} {has_heard : R → List (Event A) → Type 0} {line : Lines A} {before : R} {bytes told : List ℕ} {start : Option (List ℕ)} {old : ℕ}
    (sink : Channel) (s : Stands has_heard line before bytes told start sink.before old) (now : List (Event A)) (text : List ℕ)
    (is : text_of line now ≡ text_of line s.heard ++ text) where
  joined : text_of line now ≡ told ++ (s.text ++ text)
  joined = is ∙ ap (λ t. t ++ text) s.is_text ∙ append_assoc told s.text text

  pub stands_on : (after : R) (more : List ℕ) (new : ℕ) → has_heard after now → AreEvents more (reverse now) → Puts text sink old new (Ok tt)
      → Stands has_heard line after more told start sink.after new
  stands_on after more new has are (put, counted) = record {
    heard = now;
    has = has;
    are = are;
    text = s.text ++ text;
    is_text = joined;
    put = Appends-on start sink.before sink.after s.text text s.put put;
    counted = omega (arith, s.counted, counted, ap length is, length-append (text_of line s.heard) text);
  }

  pub stops_in : (after : R) (piece : List ℕ) (used new : ℕ) (fault : ReportFault) → IsViable A chain_limit (bytes ++ take used piece)
      → AreEvents (bytes ++ take used piece) (reverse now) → Puts text sink old new (Err fault)
      → Stops has_heard line bytes told piece after (record sink { before = start }) fault
  stops_in after piece used new (Decode fault) viable are none = absurd none
  stops_in after piece used new NoMemory viable are none = absurd none
  stops_in after piece used new (Write count) viable are (bad, n, short, put, counted) = (
    used,
    now,
    viable,
    are,
    s.text ++ text,
    joined,
    bad,
    length s.text + n,
    omega (arith, short, length-append s.text text),
    subst (Appends start sink.after) (sym (take-append-add s.text text n)) (Appends-on start sink.before sink.after s.text (take n text) s.put put),
    omega (arith, s.counted, counted, ap length s.is_text, length-append told s.text),
  )
