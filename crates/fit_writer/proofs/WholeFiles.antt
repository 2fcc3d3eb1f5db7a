-- Files that are whole.
use Rattle.std.proofs.Common.{◌≡◌, ◌∙◌, ℕ, ◌+◌, ◌<◌, ◌^◌, inl, inr, List, [], ◌∷◌, ◌++◌, length, reverse, refl, sym, ap, subst, arith}
use Rattle.std.proofs.lemmas.List.{length-append}
use Rattle.std.specs.Global.{Global}
use Rattle.fit_base.specs.Numbers.{little_bytes}
use Rattle.fit_sum.specs.Checksum.{checksum}
use Rattle.fit_chain.proofs.Completions.{all_append, chain_bytes-append}
use Rattle.fit_frame.specs.declared.header.Header.{Header}
use Rattle.fit_frame.specs.declared.header.HeaderSum.TheVariants.{Zero, True}
use Rattle.fit_frame.specs.Header.{FormFits, HeaderFits, SizeFits, ZeroIsSum, header_bytes}
use Rattle.fit_record.specs.declared.message.Record.{Record}
use Rattle.fit_record.specs.declared.file.FitFile.{FitFile}
use Rattle.fit_record.specs.Environment.{empty_environment}
use Rattle.fit_record.specs.Files.{chain_bytes, chain_limit, file_bytes}
use Rattle.fit_record.specs.Records.{AllFit, records_bytes}
use Rattle.fit_encode.proofs.Lengths.{some_file_byte}
use Rattle.fit_encode.specs.Encoding.{file_of}
use Rattle.fit_writer.specs.Written.{data_length}
use Rattle.fit_writer.specs.inner.Files.{AreWholeFiles, IsNextFile}

-- one file more
pub one_more : (bytes new head section : List ℕ) (count : ℕ) (files : List (FitFile Global)) (h : Header) (records : List (Record Global))
    → AreWholeFiles bytes count files → length files < chain_limit → HeaderFits h (length section) → head ≡ header_bytes h (length section)
    → section ≡ records_bytes empty_environment records → AllFit empty_environment records
    → new ≡ bytes ++ ((head ++ section) ++ little_bytes 2 (checksum (head ++ section)))
    → AreWholeFiles new (count + 1) (files ++ file_of h records ∷ [])
one_more bytes new head section count files h records whole room fits heads are all is =
    let f : FitFile Global = file_of h records in
    let front : head ≡ header_bytes h (length (records_bytes empty_environment records)) = heads ∙ ap (λ d. header_bytes h (length d)) are in
    let spelled : (head ++ section) ++ little_bytes 2 (checksum (head ++ section)) ≡ file_bytes f =
    ap (λ a. (a ++ section) ++ little_bytes 2 (checksum (a ++ section))) front
    ∙ ap (λ d. (header_bytes h (length (records_bytes empty_environment records)) ++ d)
    ++ little_bytes 2 (checksum (header_bytes h (length (records_bytes empty_environment records)) ++ d))) are in
    let counted : count ≡ length files = whole.counted in record {
      bytes_are = is ∙ ap (λ b. bytes ++ b) spelled ∙ ap (λ b. b ++ file_bytes f) whole.bytes_are ∙ sym (chain_bytes-append files f);
      each = all_append files f whole.each (record { header = subst (λ d. HeaderFits h (length d)) are fits; records = all });
      counted = omega (arith, counted, length-append files (f ∷ []));
      few = omega (arith, counted, room);
    }

-- ---- zeros for a sum that is 0

summed_size : (h : Header) → h.sum ≡ Zero → FormFits h → h.size ≡ 14 + length h.rest.items
summed_size h zero form = subst (λ s. SizeFits s h.size h.rest.items) zero form.size

no_zero : True ≡ Zero → ⊥
no_zero is = cc

pub summed_fits : (h : Header) (n : ℕ) → FormFits h → h.sum ≡ Zero → h.size < 2 ^ 8 → h.profile < 2 ^ 16 → n < 2 ^ 32
    → HeaderFits (record h { sum = True }) n
summed_fits h n form zero size profile short = record {
  form = record { size = summed_size h zero form; version = form.version };
  size_fits = size;
  profile_fits = profile;
  data_fits = short;
  sum = λ is. no_zero is.0;
}

pub next_plain : (old new : List (FitFile Global)) (h : Header) (records : List (Record Global)) (n : ℕ) → n ≡ data_length records → HeaderFits h n
    → new ≡ old ++ file_of h (reverse records) ∷ [] → IsNextFile old new h records
next_plain old new h records n size fits is = (h, inl (λ zero. fits.sum (subst (ZeroIsSum h) (sym size) zero), refl), is)

pub next_summed : (old new : List (FitFile Global)) (h : Header) (records : List (Record Global)) (n : ℕ) → n ≡ data_length records → ZeroIsSum h n
    → new ≡ old ++ file_of (record h { sum = True }) (reverse records) ∷ [] → IsNextFile old new h records
next_summed old new h records n size zero is = (record h { sum = True }, inr (subst (ZeroIsSum h) size zero, refl), is)

-- files have bytes
pub some_bytes : (files : List (FitFile Global)) → 0 < length files → 0 < length (chain_bytes files)
some_bytes [] some = absurd (omega (arith, some))
some_bytes (f ∷ files) some = omega (arith, some_file_byte f, length-append (file_bytes f) (chain_bytes files))
