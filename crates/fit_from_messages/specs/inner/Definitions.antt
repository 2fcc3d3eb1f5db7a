-- Definitions that blocks say. No public contract names these.
use Rattle.std.specs.Prelude.{◌≡◌, true, nat_lt, List, ℕ}
use Rattle.std.specs.List.{list_all}
use Rattle.fit_from_messages.specs.Parts.{byte_at, dev_entries, entries_stand, field_entries, size_fits}
use Rattle.fit_from_messages.specs.inner.Cutting.{is_small}

-- The block says a definition, but for the width of the items of developer fields.
pub record IsReadable (block : List ℕ) : Type 0 where
  pub local : nat_lt (byte_at 5 block) 16 ≡ true
  pub architecture : nat_lt (byte_at 6 block) 2 ≡ true
  pub entries : entries_stand block ≡ true
  pub fields : list_all (λ entry. size_fits (byte_at 7 entry) entry) (field_entries block) ≡ true
  pub dev : list_all is_small (dev_entries block) ≡ true
