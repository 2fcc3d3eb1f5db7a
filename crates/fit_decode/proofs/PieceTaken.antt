-- A turn of a reader: a piece taken and fed.
use Rattle.fit_decode.proofs.Common.{◌≡◌, true, false, ℕ, ◌<◌, ◌≤◌, List, [], ◌++◌, length, take, get_or, None, Ok, Err, refl, sym, ap, ◌∙◌, subst, arith}
use Rattle.fit_decode.proofs.Common.{length-append, IsAtEnd, append-nil, length-take, get_or-append-add, take-length, take-append-add, FitFile, Record}
use Rattle.fit_decode.proofs.Common.{chain_limit, IsViable, Fault, Truncated, Read, piece_size, IsRefused, ComesToRecords, ComesTo, Ended, NoSooner, PieceFed}
use Rattle.fit_decode.proofs.Common.{TurnTold, unrefused, min, Needs}
use Rattle.fit_decode.proofs.Nearly.{needed}
use Rattle.std.proofs.Common.{Bool, Option, Result}
use Rattle.fit_frame.specs.declared.header.Header.{Header}
use Rattle.fit_chain.specs.declared.event.Fault.TheVariants.{Refused, NoMemory}
use Rattle.fit_decode.specs.Answers.{Seen}

-- what feeding the piece told is what the turn told
pub turn_of : {A : Type 0} (files : List (FitFile A)) (bytes piece : List ℕ) (n : ℕ) (has : Option (List ℕ)) (failed : Bool) (new : Seen) (head : Option Header)
    (records : List (Record A)) (result : Result Bool Fault)
    → NoSooner files bytes n → Needs A bytes n → length piece ≤ min n piece_size → 0 < length piece → failed ≡ false
    → IsViable A chain_limit bytes → ComesTo files bytes
    → PieceFed files bytes piece new head records result → TurnTold files bytes piece has failed new head records result
turn_of files bytes piece n has failed new head records (Ok false) least needs short some good viable come (after, stands) = (some, after, stands)
turn_of files bytes piece n has failed new head records (Ok true) least needs short some good viable come (k, within, after, h, is, ended) =
    let long = least (record { header = h; records = records }) (take k piece) ended in
    let k_is : k ≡ length piece = omega (arith, long, within, short, length-take k piece) in
    let all : take k piece ≡ piece = ap (λ m. take m piece) k_is ∙ take-length piece in (
      after ∙ ap (λ t. unrefused (bytes ++ t)) all,
      h,
      is,
      subst (λ t. Ended files (record { header = h; records = records }) (bytes ++ t)) all ended,
      good,
    )
turn_of {A} files bytes piece n has failed new head records (Err (Refused place reason)) least needs short some good viable come (k, within, is, comes, why) =
    let front : take place (bytes ++ piece) ≡ bytes ++ take k piece = ap (λ m. take m (bytes ++ piece)) is ∙ take-append-add bytes piece k in
    let byte : get_or (bytes ++ piece) place 0 ≡ get_or piece k 0 = ap (λ m. get_or (bytes ++ piece) m 0) is ∙ get_or-append-add bytes piece k 0 in (
      omega (arith, is, within, length-append bytes piece),
      needed bytes piece (bytes ++ piece) n refl needs short place (omega (arith, is)),
      subst (ComesTo files) (sym front) comes,
      subst (λ b. IsRefused A chain_limit (take place (bytes ++ piece)) b reason) (sym byte)
          (subst (λ t. IsRefused A chain_limit t (get_or piece k 0) reason) (sym front) why),
      good,
    )
turn_of files bytes piece n has failed new head records (Err (NoMemory used)) least needs short some good viable come (is, lacks) = (
  omega (arith, is, length-append bytes piece),
  record {
    before = bytes;
    piece = piece;
    parts = refl;
    n = n;
    needs = needs;
    short = short;
    viable = viable;
    come = come;
    within = λ f more ended. omega (arith, short, least f more ended);
    lacks = lacks;
  },
  good,
)
turn_of files bytes piece n has failed new head records (Err fault) least needs short some good viable come never = absurd never

-- nothing more was taken
module _ {A : Type 0} (files : List (FitFile A)) (head : Option Header) (records : List (Record A)) (old : Seen) (place : ℕ) (has : Option (List ℕ))
    (failed : Bool)
    (counted : place ≡ length old.bytes) (fresh : old.refusal ≡ None) (s : ComesToRecords files head records old.bytes) where
  nothing : old.bytes ++ [] ≡ old.bytes
  nothing = append-nil old.bytes

  comes : ComesTo files (old.bytes ++ [])
  comes = subst (ComesTo files) (sym nothing) (s.progress, s.come)

  same : old ≡ unrefused (old.bytes ++ [])
  same = (λ i. record { bytes = old.bytes; refusal = fresh i }) ∙ ap unrefused (sym nothing)

  counts : place ≡ length (old.bytes ++ [])
  counts = counted ∙ ap length (sym nothing)

  pub turn_ends : IsAtEnd has → failed ≡ false → TurnTold files old.bytes [] has failed old head records (Err (Truncated place))
  turn_ends end good = (counts, end, comes, same, good)

  pub turn_fails : failed ≡ true → TurnTold files old.bytes [] has failed old head records (Err (Read place))
  turn_fails bad = (counts, bad, comes, same)
