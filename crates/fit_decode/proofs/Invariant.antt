-- The invariant of a decoder holds before the first byte.
use Rattle.fit_decode.proofs.Common.{◌≡◌, false, [], length, sym, ap, ◌∙◌, subst, arith, None, IsBytes, IsBytes-none, empty_environment, chain_limit}
use Rattle.fit_decode.proofs.Common.{IsViable, Inside, at_header, HasCome, ChainGoesOn, HoldsAt, IsSoundDecoder, fields_inside, begins_nothing}
use Rattle.fit_decode.specs.declared.section.Section.TheVariants.{Header}
use Rattle.fit_decode.proofs.FileRead.{no_file_yet, nothing_viable}

nothing_goes : (A : Type 0) → ChainGoesOn {A = A} chain_limit [] (at_header [])
nothing_goes A = (omega arith, omega arith, begins_nothing)

pub begins_kept : {A : Type 0} (d : Inside A) → d.stage.section ≡ Header → d.stage.half ≡ false → d.reader ≡ record { bytes = []; refusal = None } → d.sum ≡ []
    → d.env ≡ empty_environment → d.in_progress ≡ None
    → d.stage.files ≡ 0 → d.count ≡ 0 → d.history.items ≡ [] → IsSoundDecoder d
begins_kept {A} d at whole read none known idle no_files no_bytes nothing =
    let come : HasCome {A = A} [] (at_header d.sum) d.history.items =
    subst (λ b. HasCome {A = A} [] (at_header d.sum) b) (sym nothing) (subst (λ l. HasCome {A = A} [] (at_header l) []) (sym none) (no_file_yet A)) in
    let goes : ChainGoesOn {A = A} chain_limit [] (at_header d.sum) = subst (λ l. ChainGoesOn {A = A} chain_limit [] (at_header l)) (sym none) (nothing_goes A)
    in
    record {
      viable = subst (IsViable A chain_limit) (sym nothing) (nothing_viable A);
      are = subst IsBytes (sym nothing) IsBytes-none;
      counted = no_bytes ∙ ap length (sym nothing);
      holds = subst (λ s. HoldsAt s (fields_inside d) d.history.items) (sym at) (record {
        files = [];
        come = come;
        goes = goes;
        counted = no_files;
        whole = whole;
        read = read ∙ ap (λ l. record { bytes = l; refusal = None }) (sym none);
        known = known;
        idle = idle;
      });
    }
