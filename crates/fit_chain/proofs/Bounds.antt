-- No chain is long: the count of its bytes has room in 64 bits.
use Rattle.fit_chain.proofs.Common.{ℕ, ◌*◌, ◌<◌, ◌≤◌, List, [], ◌∷◌, ◌++◌, length, ap, arith, length-append, AllByRecursion, little_bytes, length-little_bytes}
use Rattle.fit_chain.proofs.Common.{checksum, header_bytes, length-header_bytes, FitFile, body, summed, file_bytes, chain_bytes, chain_limit, IsWellFormed}
use Rattle.fit_chain.proofs.Common.{IsViable}

short_file : {A : Type 0} (f : FitFile A) → IsWellFormed f → length (file_bytes f) ≤ 4294967552
short_file f well =
    let head : List ℕ = header_bytes f.header (length (body f)) in
    let all = length-append (head ++ body f) (little_bytes 2 (checksum (summed f))) in
    let both = length-append head (body f) in
    omega (
      arith,
      all,
      both,
      length-little_bytes 2 (checksum (summed f)),
      length-header_bytes f.header (length (body f)) well.header.form,
      well.header.size_fits,
      well.header.data_fits,
    )

short_chain : {A : Type 0} (fs : List (FitFile A)) → AllByRecursion IsWellFormed fs → length (chain_bytes fs) ≤ 4294967552 * length fs
short_chain [] each = omega arith
short_chain (f ∷ fs) each = omega (arith, short_file f each.0, short_chain fs each.1, length-append (file_bytes f) (chain_bytes fs))

pub short_bytes : {A : Type 0} (bytes : List ℕ) → IsViable A chain_limit bytes → length bytes < 144115188075855872
short_bytes bytes (more, fs, are, chain) =
    omega (arith, length-append bytes more, ap length chain.1, short_chain fs chain.0.each, chain.0.within)
