-- How a report begins and ends.
use Rattle.fit_report.proofs.Common.{◌≡◌, ℕ, ◌+◌, ◌≤◌, List, [], ◌++◌, length, take, get_or, reverse, Option, None, false, Result, Ok, Err, IsOk, IsErr, ◌↔◌}
use Rattle.fit_report.proofs.Common.{refl, sym, ap, ◌∙◌, subst, arith, length-append, Consumes, IsAtEnd, append-nil, get_or-append-add, take-append-add}
use Rattle.fit_report.proofs.Common.{chain_limit, IsViable, Refused, Truncated, Fault, Seen, Event, AreEvents, at_header, IsRefused, no_file_yet}
use Rattle.fit_report.proofs.Common.{ReportFault, Decode, NoMemory, Write, Lines, Stands, Stops, Channel, Tells, HasTold, HasHeard, report_fault}
use Rattle.fit_report.proofs.Common.{Appends, TellsMore, TextFailsIn, Consumes-append, drop, append_assoc, take-append-drop, length-drop}
use Rattle.std.proofs.Math.Seq.{take-append_seam}
use Rattle.fit_chain.specs.Memory.{IsAny, MayLackMemoryIn}
use Rattle.fit_report.specs.Reports.{TellsSome}
use Rattle.fit_chain.specs.Checks.{AreChain}
use Rattle.fit_report.specs.Reports.{long_piece, IsInPiece, IsNearlyViable}
use Rattle.fit_decode.proofs.Nearly.{wants_in_piece}
use Rattle.fit_report.proofs.Common.{Global, Consumes-nothing, ToldSoFar, nothing_viable}
use Rattle.fit_report.proofs.Texts.{Appends-nothing}
use Rattle.fit_report.specs.inner.Passing.{HasComeTo}

-- ---- no bytes

pub nothing_heard : (A : Type 0) → AreEvents {A = A} [] []
nothing_heard A = ([], at_header [], no_file_yet A, refl)

pub stands_before : {A R : Type 0} (has_heard : R → List (Event A) → Type 0) (line : Lines A) (reporter : R) (bytes : List ℕ) (start : Option (List ℕ))
    → bytes ≡ [] → has_heard reporter [] → Stands has_heard line reporter bytes [] start start 0
stands_before {A} has_heard line reporter bytes start none has = record {
  heard = [];
  has = has;
  are = subst (λ b. AreEvents {A = A} b []) (sym none) (nothing_heard A);
  text = [];
  is_text = refl;
  put = Appends-nothing start;
  counted = omega arith;
}

-- A report that has told nothing has come to no byte.
pub comes_to_nothing : {R : Type 0} (has_heard : R → List (Event Global) → Type 0) (line : Lines Global) (reporter : R) (telling : ToldSoFar)
    (begin start : Option (List ℕ)) → telling ≡ record { seen = record { bytes = []; refusal = None }; written = 0 } → has_heard reporter []
    → HasComeTo has_heard line reporter telling 0 begin begin start start
comes_to_nothing has_heard line reporter telling begin start fresh has =
    let none = ap (λ (t : ToldSoFar). t.seen.bytes) fresh in
    record {
      fresh = ap (λ (t : ToldSoFar). t.seen.refusal) fresh;
      viable = subst (IsViable Global chain_limit) (sym none) (nothing_viable Global);
      counted = ap length (sym none);
      eaten = subst (Consumes begin begin) (sym none) (Consumes-nothing begin);
      stands = subst (Stands has_heard line reporter telling.seen.bytes [] start start) (sym (ap (λ (t : ToldSoFar). t.written) fresh))
          (stands_before has_heard line reporter telling.seen.bytes start none has);
    }

-- the place after the first piece
pub after_first : {R : Type 0} {has_heard : R → List (Event Global) → Type 0} {line : Lines Global} {reporter : R} {telling : ToldSoFar} (n : ℕ)
    {begin source start sink : Option (List ℕ)} → HasComeTo has_heard line reporter telling (0 + n) begin source start sink
    → HasComeTo has_heard line reporter telling n begin source start sink
after_first {has_heard = has_heard} {line = line} {reporter = reporter} {telling = telling} n {begin = begin} {source = source}
    {start = start} {sink = sink} come =
    let same : 0 + n ≡ n = omega arith in
    subst (λ k. HasComeTo has_heard line reporter telling k begin source start sink) same come

-- ---- all but a last piece begins some files

nearly : {A : Type 0} (limit : ℕ) (before piece taken : List ℕ) → taken ≡ before ++ piece → length piece ≤ long_piece → IsViable A limit before
    → IsNearlyViable A limit taken
nearly {A} limit before piece taken parts short viable = (
  length before,
  omega (arith, ap length parts, length-append before piece),
  omega (arith, ap length parts, length-append before piece, short),
  subst (IsViable A limit) (sym (ap (take (length before)) parts ∙ take-append_seam before piece)) viable,
)

pub all_viable : {A : Type 0} (limit : ℕ) (taken : List ℕ) → IsViable A limit taken → IsNearlyViable A limit taken
all_viable limit taken viable = nearly limit taken [] taken (sym (append-nil taken)) (omega arith) viable

-- ---- a fault in a piece

module _ {A R : Type 0} (has_heard : R → List (Event A) → Type 0) (line : Lines A) (bytes piece : List ℕ) (reporter : R) (source sink : Channel)
    (short : length piece ≤ long_piece) (good : source.failed ≡ false) (viable : IsViable A chain_limit bytes) where
  front : (k : ℕ) → bytes ++ take k piece ≡ take (length bytes + k) (bytes ++ piece)
  front k = sym (take-append-add bytes piece k)

  nearly_all : IsNearlyViable A chain_limit (bytes ++ piece)
  nearly_all = nearly chain_limit bytes piece (bytes ++ piece) refl short viable

  -- what was told is all text
  all_told : (front : List ℕ) (heard : List (Event A)) → TellsMore line front [] heard sink → Tells line front heard sink
  all_told front heard (are, text, is, put) = (are, subst (Appends sink.before sink.after) (sym is) put)

  -- that much was told, and memory was refused after it
  told_before : (k : ℕ) (heard : List (Event A)) → Tells line (bytes ++ take k piece) heard sink
      → MayLackMemoryIn A IsAny (bytes ++ take k piece) (drop k piece) → TellsSome line (bytes ++ piece) sink
  told_before k heard tells lacks =
      let told : List ℕ = bytes ++ take k piece in
      let parts : bytes ++ piece ≡ told ++ drop k piece =
      ap (λ l. bytes ++ l) (sym (take-append-drop k piece)) ∙ sym (append_assoc bytes (take k piece) (drop k piece)) in (
        length told,
        heard,
        subst (λ t. Tells line t heard sink) (sym (ap (take (length told)) parts ∙ take-append_seam told (drop k piece))) tells,
        wants_in_piece IsAny IsInPiece told (drop k piece) (bytes ++ piece) parts
            (λ place after. omega (arith, after, ap length parts, length-append told (drop k piece), length-drop k piece, short)) lacks,
      )

  pub piece_fault : (fault : ReportFault) → Stops has_heard line bytes [] piece reporter sink fault
      → (heard : List (Event A)) × HasTold line (bytes ++ piece) source sink heard (Err fault) × HasHeard has_heard reporter heard (Err fault)
  piece_fault (Decode (Refused place reason)) (k, within, is, why, heard, has, tells) =
      let there : bytes ++ take k piece ≡ take place (bytes ++ piece) = front k ∙ ap (λ n. take n (bytes ++ piece)) (sym is) in
      let byte : get_or piece k 0 ≡ get_or (bytes ++ piece) place 0 = sym (get_or-append-add bytes piece k 0) ∙ ap (λ n. get_or (bytes ++ piece) n 0) (sym is)
      in (
        heard,
        (
          (
            omega (arith, is, within, length-append bytes piece),
            omega (arith, is, short, length-append bytes piece),
            subst (λ b. IsRefused A chain_limit (take place (bytes ++ piece)) b reason) byte
                (subst (λ t. IsRefused A chain_limit t (get_or piece k 0) reason) there why),
            good,
          ),
          subst (λ t. Tells line t heard sink) there (all_told (bytes ++ take k piece) heard tells),
        ),
        has,
      )
  piece_fault (Decode fault) none = absurd none
  piece_fault NoMemory (k, heard, tells, lacks) =
      (heard, (told_before k heard (all_told (bytes ++ take k piece) heard tells) lacks, good), tt)
  piece_fault (Write count) (k, heard, begins, are, text, is, bad, n, short_, put, counted) = (
    heard,
    (
      (
        length bytes + k,
        heard,
        subst (λ t. AreEvents t (reverse heard)) (front k) are,
        subst (λ t. TextFailsIn t sink count) (sym is) (bad, n, short_, put, omega (arith, counted)),
      ),
      nearly_all,
      good,
    ),
    tt,
  )

-- ---- the end of the input

-- The bytes that were fed are no chain.
pub end_fault : {A : Type 0} (line : Lines A) (now : Seen) (heard : List (Event A)) (source sink : Channel) (result : Result (Unit {0}) Fault)
    (fault : Fault) → now.refusal ≡ None → IsViable A chain_limit now.bytes
    → IsAtEnd source.after → source.failed ≡ false → Tells line now.bytes heard sink → IsOk result
    ↔ ((now.refusal ≡ None) × AreChain A now.bytes)
    → (now.refusal ≡ None → IsErr result → result ≡ Err (Truncated (length now.bytes))) → result ≡ Err fault
    → HasTold line now.bytes source sink heard (Err (report_fault fault))
end_fault line now heard source sink (Ok x) fault fresh viable end well tells good truncated is = absurd cc
end_fault {A} line now heard source sink (Err other) fault fresh viable end well tells good truncated is =
    let same : fault ≡ Truncated (length now.bytes) = let t = truncated fresh refl in cc in
    rw same ((refl, end, viable, λ done. let ok = good.1 (fresh, done) in absurd cc, well), tells)

-- nothing more was taken
pub ate_nothing : (a b c : Option (List ℕ)) (taken piece : List ℕ) (n : ℕ) → Consumes a b taken → Consumes b c (take n piece) → n ≡ 0 → Consumes a c taken
ate_nothing a b c taken piece n eaten eats none =
    subst (Consumes a c) (append-nil taken) (Consumes-append a b c taken [] eaten (subst (λ k. Consumes b c (take k piece)) none eats))
