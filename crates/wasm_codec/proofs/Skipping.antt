-- Runs of minimally encoded items, which are skipped.
use Rattle.std.proofs.Common.{◌≡◌, ℕ, zero, suc, ◌+◌, ◌-◌, ◌<◌, ◌≤◌, true, List, [], ◌∷◌, ◌++◌, length, take, drop, Some, refl, ap, subst, ◌∙◌, drop-drop, length-drop, length-take, length-append, arith}
use Rattle.std.proofs.lemmas.List.{append-nil, drop_at}
use Rattle.wasm_codec.specs.formats.Combinators.{Format, u32}
use Rattle.wasm_codec.specs.formats.Grammar.{IsBytes, TakesBytes}
use Rattle.wasm_codec.specs.Lawful.{IsLawful}
use Rattle.wasm_codec.specs.Places.{place}
use Rattle.wasm_codec.specs.Rewriter.{Rewriting, rewriting_after, skipped}
use Rattle.wasm_codec.specs.Scanning.{AreLow, BeginsItems, ReadsShort, Scans, SkipsMinimal}
use Rattle.wasm_codec.specs.declared.rewriter.scan.Scanned.TheVariants as scanned
use Rattle.wasm_codec.proofs.NumberReading.{u32_one}
use Rattle.wasm_codec.proofs.PlaceLists.{step}
use Rattle.wasm_codec.proofs.RewriterLaws.{ItemsRewritten, item_rewritten, reads_shorter, stayed_on}
use Rattle.wasm_codec.proofs.RefusalNumbers.{ListPassed, list_passed_more}
use Rattle.wasm_codec.proofs.Shortening.{bytes_after, kept_is, without_value}

-- ---- runs

pub no_run : {V : Type 0} (F : Format V) (bytes : List ℕ) → BeginsItems F bytes 0 0
no_run F bytes = record { values = []; counted = refl; within = omega arith; reads = refl }

reads_on : {V : Type 0} (F : Format V) (values more : List V) (bytes mid left : List ℕ) → ReadsShort F values bytes mid → ReadsShort F more mid left → ReadsShort F (values ++ more) bytes left
reads_on F [] more bytes mid left first next = rw first next
reads_on F (v ∷ values) more bytes mid left (rest, (read, first)) next = (rest, (read, reads_on F values more rest mid left first next))

-- a run behind a run
run_on : {V : Type 0} (F : Format V) (bytes : List ℕ) (items size more_items more : ℕ) → BeginsItems F bytes items size → BeginsItems F (drop size bytes) more_items more → BeginsItems F bytes (items + more_items) (size + more)
run_on F bytes items size more_items more first next =
    let left = drop-drop more size bytes in
    record {
      values = first.values ++ next.values;
      counted = omega (arith, length-append first.values next.values, first.counted, next.counted);
      within = omega (arith, first.within, next.within, length-drop size bytes);
      reads = reads_on F first.values next.values bytes (drop size bytes) (drop (size + more) bytes) first.reads (rw left at next.reads);
    }

-- one scanned item more
pub run_scanned : {V : Type 0} (F : Format V) (bytes : List ℕ) (items size count : ℕ) → BeginsItems F bytes items size → Scans F (drop size bytes) (Some (scanned.Minimal count)) → BeginsItems F bytes (items + 1) (size + count)
run_scanned F bytes items size count begun (within, (v, read)) =
    run_on F bytes items size 1 count begun (record { values = v ∷ []; counted = refl; within = within; reads = (drop count (drop size bytes), (read, refl)) })

low_reads : (count : ℕ) (bytes : List ℕ) → count ≤ length bytes → AreLow (take count bytes) → ReadsShort u32 (take count bytes) bytes (drop count bytes)
low_reads zero bytes within low = refl
low_reads (suc count) [] within low = absurd (omega (arith, within))
low_reads (suc count) (b ∷ bytes) within low = (bytes, (u32_one (place true (b ∷ bytes)) (place true bytes) b low.0 refl, low_reads count bytes (omega (arith, within)) low.1))

-- this many numbers of one byte more
pub run_low : (bytes : List ℕ) (items size count : ℕ) → BeginsItems u32 bytes items size → count ≤ length (drop size bytes) → AreLow (take count (drop size bytes)) → BeginsItems u32 bytes (items + count) (size + count)
run_low bytes items size count begun within low =
    let left = drop size bytes in
    run_on u32 bytes items size count count begun (record { values = take count left; counted = omega (arith, length-take count left, within); within = within; reads = low_reads count left within low })

-- ---- skipping

pub skips_none : {V : Type 0} (F : Format V) (most : ℕ) (old : Rewriting) → SkipsMinimal F most old old 0
skips_none F most old = record { few = omega arith; size = 0; begins = no_run F old.place.left; kept = rw (append-nil old.done) refl }

-- an item that stays as it is
pub record Stays {V : Type 0} (F : Format V) (here next : Rewriting) : Type 0 where
  pub passed : rewriting_after F here ≡ Some next
  pub size : ℕ
  pub within : size ≤ length here.place.left
  pub kept : next ≡ skipped size here

-- what each such item keeps up is kept up by a run of them
items_stay : {V : Type 0} {F : Format V} → IsLawful F → (P : Rewriting → ℕ → Type 0) (count : ℕ) → ((here next : Rewriting) (i : ℕ) → P here i → i < count → Stays F here next → P next (i + 1))
    → (here : Rewriting) (i : ℕ) (values : List V) (left : List ℕ) → IsBytes here.place.left → P here i → i + length values ≤ count → ReadsShort F values here.place.left left → P (skipped (length here.place.left - length left) here) (i + length values)
items_stay law P count go here i [] left fits so_far few reads =
    let none : length here.place.left - length left ≡ 0 = omega (arith, ap (length {A = ℕ}) reads) in
    let same : i + 0 ≡ i = omega arith in
    rw (none, append-nil here.done, same) so_far
items_stay {V} {F} law P count go here i (v ∷ values) left fits so_far few (next, (read, reads)) =
    let one = step law (place true here.place.left) v (place true next) fits read in
    let sizes : length here.place.left ≡ length one.prefix + length next = ap (length {A = ℕ}) one.parts ∙ length-append one.prefix next in
    let size = length here.place.left - length next in
    let left_is : drop size here.place.left ≡ next = ap (drop size) one.parts ∙ drop_at one.prefix next size (omega (arith, sizes)) in
    let fits_next : IsBytes next = bytes_after one.prefix next (subst IsBytes one.parts fits) in
    let after = skipped size here in
    let passed = without_value F here v after (kept_is law here v (place true next) fits read refl) in
    let more = go here after i so_far (omega (arith, few)) record { passed = passed; size = size; within = omega arith; kept = refl } in
    let again = items_stay law P count go after (i + 1) values left (rw left_is fits_next) more (omega (arith, few)) (rw left_is reads) in
    let shorter = reads_shorter law values next left fits_next reads in
    let rest : length (drop size here.place.left) - length left ≡ length next - length left = ap (λ (t : List ℕ). length t - length left) left_is in
    let all : size + (length next - length left) ≡ length here.place.left - length left = omega (arith, sizes, shorter) in
    let where_is : skipped (length (drop size here.place.left) - length left) after ≡ skipped (length here.place.left - length left) here = ap (λ (m : ℕ). skipped m after) rest ∙ stayed_on size (length next - length left) here ∙ ap (λ (m : ℕ). skipped m here) all in
    let index : i + 1 + length values ≡ i + suc (length values) = omega arith in
    subst (λ (n : ℕ). P (skipped (length here.place.left - length left) here) n) index (subst (λ (r : Rewriting). P r (i + 1 + length values)) where_is again)

pub all_stay : {V : Type 0} {F : Format V} → IsLawful F → (P : Rewriting → ℕ → Type 0) (count : ℕ) → ((here next : Rewriting) (i : ℕ) → P here i → i < count → Stays F here next → P next (i + 1))
    → (here next : Rewriting) (i most items : ℕ) → IsBytes here.place.left → P here i → i + most ≤ count → SkipsMinimal F most here next items → P next (i + items)
all_stay {V} {F} law P count go here next i most items fits so_far few skips =
    let b = skips.begins in
    let size : length here.place.left - length (drop skips.size here.place.left) ≡ skips.size = omega (arith, length-drop skips.size here.place.left, b.within) in
    let all = items_stay law P count go here i b.values (drop skips.size here.place.left) fits so_far (omega (arith, few, skips.few, b.counted)) b.reads in
    rw (skips.kept, ← b.counted) (rw size at all)

pub items_skipped : {V : Type 0} {F : Format V} → IsLawful F → (old here next : Rewriting) (count i most items : ℕ) → IsBytes here.place.left → ItemsRewritten F old here count i → i + most ≤ count → SkipsMinimal F most here next items → ItemsRewritten F old next count (i + items)
items_skipped {F = F} law old here next count i most items fits so_far few skips =
    all_stay law (λ at n. ItemsRewritten F old at count n) count (λ at after n w lt s. item_rewritten F old at after count n w lt s.passed) here next i most items fits so_far few skips

pub list_skipped : {V : Type 0} {F : Format V} → IsLawful F → TakesBytes F.Encodes → (bytes : List ℕ) (here next : Rewriting) (count i most items : ℕ) → ListPassed F bytes here.place.left count i → i + most ≤ count → SkipsMinimal F most here next items → ListPassed F bytes next.place.left count (i + items)
list_skipped {F = F} law some bytes here next count i most items so_far few skips =
    all_stay law (λ at n. ListPassed F bytes at.place.left count n) count (λ at after n w lt s. list_passed_more law some bytes at after count n w lt s.passed) here next i most items so_far.fits so_far few skips
