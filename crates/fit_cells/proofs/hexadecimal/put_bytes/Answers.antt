use Rattle.fit_cells.proofs.Common.{◌≡◌, ◌∙◌, ◌<◌, ◌+◌, ◌++◌, ℕ, List, length, flat_map, take, get_or, sym, ap, ap₂, append_assoc, codes}
use Rattle.fit_cells.proofs.Common.{take_all, take_more, hex_digits, none_put, more_put, on_err_always}
use Rattle.std.proofs.Common.{append-nil}
use Rattle.std.proofs.lemmas.List.{flat_map_more}
use Rattle.fit_cells.proofs.hexadecimal.put_bytes.Goals as goal

-- one more byte is written
byte_put : (f : ℕ → List ℕ) (bytes : List ℕ) (i : ℕ) (start old new : List ℕ) → i < length bytes → old ≡ start ++ flat_map f (take i bytes)
    → new ≡ old ++ f (get_or bytes i 0) → new ≡ start ++ flat_map f (take (i + 1) bytes)
byte_put f bytes i start old new less told put =
    let x = get_or bytes i 0 in
    put ∙ ap (λ t. t ++ f x) told ∙ flat_map_more f start (take i bytes) x ∙ ap (λ l. start ++ flat_map f l) (sym (take_more bytes i 0 less))

pub returns-in_err-extend_from_slice-clause-kept : goal.returns-in_err-extend_from_slice-clause-kept
returns-in_err-extend_from_slice-clause-kept c =
    on_err_always c.from_residual.result _
    (none_put c.args.text.now.items c.extend_from_slice.new.self.items c.in_err-extend_from_slice.ensures.items)

pub loop-byte-init : goal.loop-byte-init
loop-byte-init c = sym (append-nil c.extend_from_slice.new.self.items)

pub returns-in_err-put_digits-clause-kept : goal.returns-in_err-put_digits-clause-kept
returns-in_err-put_digits-clause-kept c =
    on_err_always c.from_residual-in_err-put_digits.result _
    (more_put c.args.text.now.items c.extend_from_slice.new.self.items c.put_digits.new.text.items _ c.in_ok-extend_from_slice.ensures.items
    (more_put c.extend_from_slice.new.self.items c.loop-byte.text.items c.put_digits.new.text.items _ c.loop-byte.invariant
    c.in_err-put_digits.ensures.kept))

pub loop-byte-preserved : goal.loop-byte-preserved
loop-byte-preserved c =
    byte_put (hex_digits 2) c.args.bytes.now c.loop-byte.byte-index c.extend_from_slice.new.self.items c.loop-byte.text.items c.put_digits.new.text.items
    c.loop-byte-test.true c.loop-byte.invariant c.in_ok-put_digits.ensures.ok

pub returns-clause-ok : goal.returns-clause-ok
returns-clause-ok c =
    c.loop-byte.invariant
    ∙ ap₂ (λ a l. a ++ flat_map (hex_digits 2) l) c.in_ok-extend_from_slice.ensures.items
    (take_all c.loop-byte.byte-index c.args.bytes.now c.loop-byte-test.false)
    ∙ append_assoc c.args.text.now.items (codes "0x") (flat_map (hex_digits 2) c.args.bytes.now)
