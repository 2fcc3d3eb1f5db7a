use Rattle.fit_cells.proofs.Common.{◌≡◌, ◌<◌, ◌^◌, ℕ, List, All, length, map, take, drop, option_map, base_type, meaning, barred, item_text}
use denote.Text.{Utf8}
use denote.Shadow.{shadow}
use Rattle.fit_cells.proofs.scan.read_several.Given as goal

abbrev pub invariant-loop-place : goal.invariant-loop-place
invariant-loop-place l = record {
  text : shadow (Utf8 l.rest);
  count : length l.bits ≡ l.place;
  below : All (λ n. n < 256 ^ (base_type l.code.0).width) l.bits;
  every : (numbers : List ℕ) → length numbers ≡ l.count → All (λ n. n < 256 ^ (base_type l.code.0).width) numbers
      → l.fn.text ≡ barred (map (item_text l.class l.code.0 (option_map meaning l.info) (base_type l.code.0).width) numbers)
      → (l.bits ≡ take l.place numbers) × (l.rest
      ≡ barred (map (item_text l.class l.code.0 (option_map meaning l.info) (base_type l.code.0).width) (drop l.place numbers)));
}
