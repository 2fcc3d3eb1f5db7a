-- Two and eight bytes at once: the register is the sum of what each of them gives alone.
use Rattle.fit_sum.proofs.Common.{◌≡◌, ℕ, ◌+◌, ◌*◌, ◌/◌, ◌%◌, ◌<◌, List, [], ◌∷◌, length, get_or, refl, ap, sym, ◌∙◌, arith, bit_xor, xor_assoc, xor_zero_l}
use Rattle.fit_sum.proofs.Common.{xor_comm, shifts, run, AllBytes, bytes_number}
use Rattle.fit_sum.proofs.ShiftsOfSums.{steps-xor, steps-add}
use Rattle.fit_sum.proofs.Division.{run-steps}
use Rattle.fit_sum.proofs.TableEntries.{byte-step}

-- what the register had, and what the bytes give
run-linear : (register : ℕ) (bytes : List ℕ) → AllBytes bytes → run register bytes ≡ bit_xor (shifts (8 * length bytes) register) (run 0 bytes)
run-linear register bytes h =
    let n = 8 * length bytes in
    run-steps register bytes h
    ∙ steps-xor n register (bytes_number bytes)
    ∙ ap (bit_xor (shifts n register)) (ap (shifts n) (sym (xor_zero_l (bytes_number bytes))) ∙ sym (run-steps 0 bytes h))

-- the first byte's part, and the others'
run-first : (n x : ℕ) (bytes : List ℕ) → AllBytes bytes → 8 * length bytes ≡ n → run 0 (x ∷ bytes) ≡ bit_xor (shifts (8 + n) x) (run 0 bytes)
unfolding run
run-first n x bytes h e =
    ap (λ t. run (shifts 8 t) bytes) (xor_zero_l x)
    ∙ run-linear (shifts 8 x) bytes h
    ∙ ap (λ t. bit_xor (shifts t (shifts 8 x)) (run 0 bytes)) e
    ∙ ap (λ t. bit_xor t (run 0 bytes)) (sym (steps-add 8 n x))

run-two : (a b : ℕ) → b < 256 → run 0 (a ∷ b ∷ []) ≡ bit_xor (shifts 16 a) (shifts 8 b)
unfolding run
run-two a b h = run-first 8 a (b ∷ []) (h, tt) refl ∙ ap (λ t. bit_xor (shifts 16 a) (shifts 8 t)) (xor_zero_l b)

run-eight : (a b c d e f g h : ℕ) → AllBytes (b ∷ c ∷ d ∷ e ∷ f ∷ g ∷ h ∷ [])
    → run 0 (a ∷ b ∷ c ∷ d ∷ e ∷ f ∷ g ∷ h ∷ [])
    ≡ bit_xor (shifts 64 a) (bit_xor (shifts 56 b)
    (bit_xor (shifts 48 c) (bit_xor (shifts 40 d) (bit_xor (shifts 32 e) (bit_xor (shifts 24 f) (bit_xor (shifts 16 g) (shifts 8 h)))))))
unfolding run
run-eight a b c d e f g h p =
    run-first 56 a (b ∷ c ∷ d ∷ e ∷ f ∷ g ∷ h ∷ []) p refl
    ∙ ap (bit_xor (shifts 64 a)) (run-first 48 b (c ∷ d ∷ e ∷ f ∷ g ∷ h ∷ []) p.1 refl
    ∙ ap (bit_xor (shifts 56 b)) (run-first 40 c (d ∷ e ∷ f ∷ g ∷ h ∷ []) p.1.1 refl
    ∙ ap (bit_xor (shifts 48 c)) (run-first 32 d (e ∷ f ∷ g ∷ h ∷ []) p.1.1.1 refl
    ∙ ap (bit_xor (shifts 40 d)) (run-first 24 e (f ∷ g ∷ h ∷ []) p.1.1.1.1 refl
    ∙ ap (bit_xor (shifts 32 e)) (run-first 16 f (g ∷ h ∷ []) p.1.1.1.1.1 refl
    ∙ ap (bit_xor (shifts 24 f)) (run-two g h p.1.1.1.1.1.1.0))))))

-- the register goes into the first two bytes
run-register : (c a b : ℕ) (bytes : List ℕ) → a < 256 → run c (a ∷ b ∷ bytes) ≡ run 0 (bit_xor (c % 256) a ∷ bit_xor (c / 256) b ∷ bytes)
unfolding run
run-register c a b bytes h =
    let low = bit_xor (c % 256) a in
    let first : shifts 8 (bit_xor c a) ≡ bit_xor (shifts 8 low) (c / 256) = sym (byte-step c a h) ∙ xor_comm (c / 256) (shifts 8 low) in
    let second : bit_xor (shifts 8 (bit_xor c a)) b ≡ bit_xor (shifts 8 (bit_xor 0 low)) (bit_xor (c / 256) b)
    = ap (λ t. bit_xor t b) first ∙ xor_assoc (shifts 8 low) (c / 256) b ∙ ap (λ t. bit_xor (shifts 8 t) (bit_xor (c / 256) b)) (sym (xor_zero_l low)) in
    ap (λ t. run (shifts 8 t) bytes) second

pub eight : (c : ℕ) (bytes : List ℕ) → bit_xor (c / 256) (get_or bytes 1 0) < 256 → length bytes ≡ 8 → ((i : ℕ) → get_or bytes i 0 < 256)
    → bit_xor (shifts 64 (bit_xor (c % 256) (get_or bytes 0 0)))
    (bit_xor (shifts 56 (bit_xor (c / 256) (get_or bytes 1 0))) (bit_xor (shifts 48 (get_or bytes 2 0)) (bit_xor (shifts 40 (get_or bytes 3 0))
    (bit_xor (shifts 32 (get_or bytes 4 0)) (bit_xor (shifts 24 (get_or bytes 5 0)) (bit_xor (shifts 16 (get_or bytes 6 0)) (shifts 8 (get_or bytes 7 0))))))))
    ≡ run c bytes
eight c (x ∷ y ∷ d ∷ e ∷ f ∷ g ∷ h ∷ i ∷ []) second n below =
    let rest : AllBytes (bit_xor (c / 256) y ∷ d ∷ e ∷ f ∷ g ∷ h ∷ i ∷ []) = (second, (below 2, (below 3, (below 4, (below 5, (below 6, (below 7, tt))))))) in
    sym (run-eight (bit_xor (c % 256) x) (bit_xor (c / 256) y) d e f g h i rest)
    ∙ sym (run-register c x y (d ∷ e ∷ f ∷ g ∷ h ∷ i ∷ []) (below 0))
eight c bytes second n below = absurd (omega arith)

pub two : (c : ℕ) (bytes : List ℕ) → bit_xor (c / 256) (get_or bytes 1 0) < 256 → length bytes ≡ 2 → ((i : ℕ) → get_or bytes i 0 < 256)
    → bit_xor (shifts 16 (bit_xor (c % 256) (get_or bytes 0 0))) (shifts 8 (bit_xor (c / 256) (get_or bytes 1 0))) ≡ run c bytes
two c (x ∷ y ∷ []) second n below = sym (run-two (bit_xor (c % 256) x) (bit_xor (c / 256) y) second) ∙ sym (run-register c x y [] (below 0))
two c bytes second n below = absurd (omega arith)
