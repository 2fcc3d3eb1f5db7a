-- A file and its bytes determine each other, and no file's bytes begin those of another.
use Rattle.fit_record.proofs.Common.{◌≡◌, ℕ, List, ◌++◌, length, sym, ap, ◌∙◌, little_bytes, checksum, header_bytes, FitFile, empty_environment}
use Rattle.fit_record.proofs.Common.{body, summed, file_bytes, IsWellFormed, FilesHaveOneSpelling}
use Rattle.fit_frame.proofs.OneHeader.{one_header}
use Rattle.fit_record.proofs.OneRecord.{regroup, same_records}

pub same_file : {A : Type 0} (f g : FitFile A) (x y : List ℕ) → IsWellFormed f → IsWellFormed g → file_bytes f ++ x ≡ file_bytes g ++ y → f ≡ g
same_file f g x y p q e =
    let parts = sym (regroup (header_bytes f.header (length (body f))) (body f) (little_bytes 2 (checksum (summed f))) x) ∙ e
    ∙ regroup (header_bytes g.header (length (body g))) (body g) (little_bytes 2 (checksum (summed g))) y in
    let header = one_header f.header g.header (length (body f)) (length (body g))
    (body f ++ (little_bytes 2 (checksum (summed f)) ++ x)) (body g ++ (little_bytes 2 (checksum (summed g)) ++ y)) p.header q.header parts in
    let records = same_records empty_environment f.records g.records _ _ p.records q.records header.1 header.2 in
    λ i. record { header = header.0 i; records = records i }

pub one_file : {A : Type 0} → FilesHaveOneSpelling A
one_file f g a b x y p q h =
    let k = same_file f g x y p.0 q.0 (sym (ap (λ t. t ++ x) p.1) ∙ h ∙ ap (λ t. t ++ y) q.1) in
    (k, p.1 ∙ ap file_bytes k ∙ sym q.1)
