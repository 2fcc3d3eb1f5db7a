-- What the reading of one file tells.
use Rattle.fit_decode.proofs.Common.{◌≡◌, ℕ, List, [], ◌∷◌, ◌++◌, length, take, Some, Ok, Err, sym, ap, ◌∙◌, subst, arith, Consumes, append-nil, IsBytes}
use Rattle.fit_decode.proofs.Common.{Reason, FitFile, file_bytes, IsFile, IsChain, IsViable, chain_limit, Fault, Truncated, Read, Progress, HasCome, IsRefused}
use Rattle.fit_decode.proofs.Common.{reason_at, BeginsWithFile, Channel, EndsReading, ReadsOne, GivesFile, FaultIn, FileTold, FileRead, are_of_bytes}
use Rattle.fit_decode.proofs.Common.{next_bytes, one_place, no_file, inl, inr, ◌+◌, ◌-◌, ◌≤◌, refl, length-append, length-take, take-append-add, chain_bytes}
use Rattle.fit_decode.proofs.Common.{ComesTo, Ended, NoSooner, LastPiece, IsItem, IsInNeededPiece, MayLackMemory, WantsMemory, file_ends}
use Rattle.std.proofs.Common.{Bool, Option, Result}
use Rattle.fit_chain.specs.declared.event.Fault.TheVariants.{Refused, NoMemory}
use Rattle.fit_decode.specs.Answers.{Seen}
use Rattle.fit_chain.proofs.FirstFile.{other_limit}
use Rattle.fit_decode.proofs.FileGiven.{given}
use Rattle.fit_step.proofs.Splits.{split}
use Rattle.fit_base.proofs.ByteLists.{IsBytes-front}
use Rattle.fit_decode.proofs.FileRead.{no_file_yet}
use Rattle.fit_decode.proofs.Nearly.{needed}

-- ---- what begins a chain and has no whole file begins a file

file_viable : {A : Type 0} (g : Progress A) (bytes : List ℕ) → HasCome [] g bytes → IsViable A chain_limit bytes → IsViable A 1 bytes
file_viable g bytes come viable = other_limit chain_limit 1 g bytes come (are_of_bytes chain_limit bytes viable) (omega arith) viable

wider : (A : Type 0) (bytes : List ℕ) → IsViable A 1 bytes → IsViable A chain_limit bytes
wider A bytes (more, fs, are, chain) = (more, fs, are, (record { some = chain.0.some; within = omega (arith, chain.0.within); each = chain.0.each }, chain.1))

file_refused : {A : Type 0} (g : Progress A) (bytes : List ℕ) (b : ℕ) (reason : Reason) → HasCome [] g bytes → IsRefused A chain_limit bytes b reason
    → IsRefused A 1 bytes b reason
file_refused {A} g bytes b reason come why =
    let one = one_place why.files [] why.progress g bytes why.come come in
    record {
      viable = file_viable g bytes come why.viable;
      refused = λ viable. why.refused (wider A (bytes ++ b ∷ []) viable);
      files = [];
      progress = g;
      come = come;
      because = sym (λ i. reason_at chain_limit (length (one.0 i)) (one.1 i) b) ∙ why.because;
    }

none_whole : {A : Type 0} (g : Progress A) (bytes : List ℕ) → HasCome [] g bytes → BeginsWithFile A bytes → ⊥
none_whole g bytes come (f, b, rest, file, begins) = no_file g f rest come.next file.0 (sym come.spelled ∙ begins ∙ ap (λ t. t ++ rest) file.1)

chain_of_one : {A : Type 0} (f : FitFile A) (b : List ℕ) → IsFile f b → IsChain chain_limit (f ∷ []) b
chain_of_one f b file = (record { some = omega arith; within = omega arith; each = (file.0, tt) }, file.1 ∙ sym (append-nil (file_bytes f)))

-- What begins a chain and goes no further than its first file begins that.
first_file : {A : Type 0} (before more : List ℕ) → ComesTo {A = A} [] before → NoSooner {A = A} [] before (length more)
    → IsViable A chain_limit (before ++ more) → IsViable A 1 (before ++ more)
first_file before more comes within (rest, [], are, (well, spelled)) = absurd (omega (arith, well.some))
first_file {A} before more comes within (rest, f ∷ fs, are, (well, spelled)) =
    let x : List ℕ = before ++ more in
    let b : List ℕ = file_bytes f in
    let file : IsFile f b = (well.each.0, refl) in
    let low : IsBytes (b ++ chain_bytes fs) = subst IsBytes spelled are in
    elim (split x b rest (chain_bytes fs) spelled) [
      | inl s ↦ (
        s.more,
        f ∷ [],
        subst IsBytes s.second (IsBytes-front b (chain_bytes fs) low),
        (record { some = omega arith; within = omega arith; each = (well.each.0, tt) }, sym s.second ∙ sym (append-nil b)),
      )
      | inr s ↦ elim (split b before (s.next ∷ s.more) more (sym s.first)) [
        | inl t ↦ absurd (none_whole comes.0 before comes.1 (f, b, t.more, file, t.second))
        | inr t ↦
            let ended : Ended [] f (before ++ t.next ∷ t.more) =
            subst (Ended [] f) t.first
            (file_ends [] [] (no_file_yet A) f b [] (IsBytes-front b (chain_bytes fs) low) file (f ∷ [], chain_of_one f b file)) in
            absurd (omega (
              arith,
              within f (t.next ∷ t.more) ended,
              ap length t.first,
              length-append before (t.next ∷ t.more),
              ap length s.first,
              length-append before more,
              length-append b (s.next ∷ s.more),
            ))
      ]
    ]

-- ---- the answers

-- memory was refused in the last piece, of a file
file_wants : {A : Type 0} (taken : List ℕ) → LastPiece {A = A} [] taken → WantsMemory A IsItem 1 (IsInNeededPiece A) 0 taken
file_wants {A} taken last =
    let (place, after, lacks) = last.lacks in
    let all = last.before ++ last.piece in
    let more : List ℕ = take (place + 1 - length last.before) last.piece in
    let front : take (place + 1) all ≡ last.before ++ more =
    ap (λ n. take n all) (omega (arith, after)) ∙ take-append-add last.before last.piece (place + 1 - length last.before) in
    let short : length more ≤ length last.piece = omega (arith, length-take (place + 1 - length last.before) last.piece) in
    let viable : IsViable A 1 (take (place + 1) all) =
    subst (IsViable A 1) (sym front)
    (first_file last.before more last.come (λ f rest ended. omega (arith, short, last.within f rest ended)) (subst (IsViable A chain_limit) front lacks.viable))
    in (
      place,
      omega arith,
      needed last.before last.piece taken last.n last.parts last.needs last.short place after,
      subst (λ t. MayLackMemory A IsItem 1 t place) (sym last.parts) (record { within = lacks.within; viable = viable; takes = lacks.takes }),
    )

file_fault : {A : Type 0} (taken : List ℕ) (source : Channel) (new : Seen) (fault : Fault) → IsViable A chain_limit new.bytes
    → FaultIn {A = A} [] taken source.after source.failed new fault
    → EndsReading A 1 (BeginsWithFile A) (IsInNeededPiece A) (WantsMemory A IsItem 1 (IsInNeededPiece A) 0) taken source fault
file_fault taken source new (Refused place reason) viable (within, near, comes, why, good) =
    (within, near, file_refused comes.0 (take place taken) _ reason comes.1 why, good)
file_fault {A} taken source new (Truncated place) viable (is, end, comes, after, good) =
    (is, end, file_viable comes.0 taken comes.1 (subst (λ (v : Seen). IsViable A chain_limit v.bytes) after viable), none_whole comes.0 taken comes.1, good)
file_fault taken source new (NoMemory used) viable (is, last, good) = (is, file_wants taken last, good)
file_fault {A} taken source new (Read place) viable (is, bad, comes, after) =
    (is, bad, file_viable comes.0 taken comes.1 (subst (λ (v : Seen). IsViable A chain_limit v.bytes) after viable))

pub reads_one : {A : Type 0} (bytes old taken : List ℕ) (had has : Option (List ℕ)) (failed : Bool) (new : Seen) (result : Result (FitFile A) Fault)
    → bytes ≡ [] → IsViable A chain_limit new.bytes → FileRead [] bytes old taken had has failed new result
    → ReadsOne (record { before = had; after = has; failed = failed }) result
reads_one {A} bytes old taken had has failed new (Ok f) none viable r =
    let told = subst (λ t. FileTold [] (t ++ r.got) has failed new (Ok f)) none r.told in
    (r.got, r.eats, next_bytes [] [] (no_file_yet A) f r.got told.1, told.2)
reads_one {A} bytes old taken had has failed new (Err fault) none viable r =
    let source : Channel = record { before = had; after = has; failed = failed } in
    (r.got, r.eats, file_fault r.got source new fault viable (subst (λ t. FaultIn {A = A} [] (t ++ r.got) has failed new fault) none r.told))

pub gives_file : {A : Type 0} (f : FitFile A) (b x bytes old taken : List ℕ) (had has : Option (List ℕ)) (failed : Bool) (new : Seen)
    (result : Result (FitFile A) Fault)
    → had ≡ Some (b ++ x) → IsBytes b → IsFile f b → bytes ≡ [] → FileRead [] bytes old taken had has failed new result
    → GivesFile f (length b) x (record { before = had; after = has; failed = failed }) result
gives_file {A} f b x bytes old taken had has failed new result input are file none r =
    given [] [] (no_file_yet A) f b x are file (f ∷ [], chain_of_one f b file) r.got has failed new result (subst (λ h. Consumes h has r.got) input r.eats)
    (subst (λ t. FileTold [] (t ++ r.got) has failed new result) none r.told)
