-- A job line by line: each line of the worker, put back, is the chip's.
use mathlib.Core.Path.{◌≡◌, refl, sym, ap, ap₂, ◌∙◌, subst, fun_ext}
use mathlib.Core.Bool.{Bool, true, false}
use mathlib.Core.List.{List, [], ◌++◌}
use Prim.Native.Nat.{ℕ, zero, suc, ◌+◌, ◌-◌, ◌*◌, ◌%◌, ◌≤◌, ◌<◌, max}
use native.Mathlib.Nat.{add-mul, dvd-add, dvd-mul_left, dvd-mul_left_of_dvd, dvd_of_mod-eq-zero, dvd_refl, dvd-sub, mod-eq-zero_of_dvd, mod-lt, mul-le-mul, mul-le-mul_right, suc-mul}
use native.Mathlib.Omega.{arith}
use lib.Dec.{lit<}
use lib.ListN.{length, get_or, take, drop}
use Rattle.pixel.specs.Pixel.{get_pixel}
use Rattle.blit.specs.Blit.{Source, given, memory as in_memory, towards, along, source_pixel, pixels, chip_line, chip_lines, chip_blit}
use Rattle.blit.specs.Job.{mix_of, pattern_pixel, source_of, blit_of, performed, LineIn, SourceIn, JobOk}
use Rattle.blit.specs.Line.{rank, spot, work_line, straight_line, copied, LineOk}
use Rattle.blit.specs.declared.Mix.{Mix}
use Rattle.blit.specs.declared.Mix.TheVariants.{Store}
use Rattle.blit.specs.declared.From.{From}
use Rattle.blit.specs.declared.From.TheVariants.{Colour, Memory, Pattern}
use Rattle.blit.specs.declared.Job.{Job}
use Rattle.blit.proofs.Runs.{pixels_ext, step_fits}
use Rattle.blit_pattern.specs.Pattern.{pattern_rows, rows_pixel, tiled_lines}
use Rattle.blit_pattern.proofs.Parts.{lines_pixel_lem, part_pixel}
use Rattle.blit_pattern.proofs.Rows.{rows_from_lem, rows_pixel_lem}
use Rattle.blit_pattern.proofs.Tiles.{stored_pixel_lem}
use Rattle.blit_code.specs.Lines.{lag_of, lines_pixel, low_end, AboveZero}
use Rattle.blit_code.proofs.Lift.{fill_put_back, put_back, sourced_move}

-- ---- low ends

pub zero_down : (down : Bool) (bytes line width a j : ℕ) → down ≡ true → AboveZero down bytes line width a j → j * line + width * bytes ≤ a + bytes
zero_down down bytes line width a j e p = subst (λ (t : Bool). AboveZero t bytes line width a j) e p

above_zero : (down : Bool) (bytes line width a m j : ℕ) → LineIn down bytes line width a m j → AboveZero down bytes line width a j
above_zero false bytes line width a m j p = tt
above_zero true bytes line width a m j p = p.0

-- the lines before a line that lies in the memory lie there too
all_lines : (down : Bool) (bytes line width a m h : ℕ) → 0 < h → LineIn down bytes line width a m (h - 1) → (j : ℕ) → j < h
    → LineIn down bytes line width a m j
all_lines false bytes line width a m h z p j hj = omega (arith, mul-le-mul_right {m = j} {n = h - 1} line (omega arith))
all_lines true bytes line width a m h z p j hj = (omega (arith, p.0, mul-le-mul_right {m = j} {n = h - 1} line (omega arith)), p.1)

low_room : (down : Bool) (bytes line width a m j r : ℕ) → LineIn down bytes line width a m j → r ≡ low_end down bytes line width a j
    → r + width * bytes ≤ m
unfolding low_end
low_room false bytes line width a m j r p e = omega arith
low_room true bytes line width a m j r p e = omega (arith, p.0, p.1)

low_even : (down : Bool) (bytes line width a j : ℕ) → a % bytes ≡ 0 → line % bytes ≡ 0 → low_end down bytes line width a j % bytes ≡ 0
unfolding low_end
low_even false bytes line width a j ea el =
    mod-eq-zero_of_dvd bytes (dvd-add bytes (dvd_of_mod-eq-zero bytes ea) (dvd-mul_left_of_dvd bytes (dvd_of_mod-eq-zero bytes el) j))
low_even true bytes line width a j ea el =
    mod-eq-zero_of_dvd bytes
    (dvd-sub bytes (dvd-add bytes (dvd_of_mod-eq-zero bytes ea) (dvd_refl bytes))
    (dvd-add bytes (dvd-mul_left_of_dvd bytes (dvd_of_mod-eq-zero bytes el) j) (dvd-mul_left bytes width)))

-- pixel i of line j as the chip goes stands at the line's low end and its place in the line
low_spot : (down : Bool) (bytes line width a m j i : ℕ) → LineIn down bytes line width a m j → i < width
    → along (towards down) a (j * line + i * bytes) ≡ low_end down bytes line width a j + spot down bytes width i
unfolding low_end rank
low_spot false bytes line width a m j i p h = omega arith
low_spot true bytes line width a m j i p h =
    let t : width ≡ (width - 1 - i) + suc i = omega arith in
    let u : width * bytes ≡ (width - 1 - i) * bytes + suc i * bytes = ap (λ (z : ℕ). z * bytes) t ∙ add-mul (width - 1 - i) (suc i) bytes in
    omega (arith, p.0, suc-mul i bytes)

-- ---- a job's lines in the memory

source_colour : (from : From) (c : ℕ) (mix : Mix) (down : Bool) (bytes line width m j : ℕ) → from ≡ Colour c
    → SourceIn from mix down bytes line width m j → (down ≡ false) × (mix ≡ Store)
source_colour from c mix down bytes line width m j e p = subst (λ (x : From). SourceIn x mix down bytes line width m j) e p

source_memory : (from : From) (s : ℕ) (mix : Mix) (down : Bool) (bytes line width m j : ℕ) → from ≡ Memory s
    → SourceIn from mix down bytes line width m j → LineIn down bytes line width s m j × (s % bytes ≡ 0)
source_memory from s mix down bytes line width m j e p = subst (λ (x : From). SourceIn x mix down bytes line width m j) e p

source_pattern : (from : From) (a x y : ℕ) (mix : Mix) (down : Bool) (bytes line width m j : ℕ) → from ≡ Pattern a x y
    → SourceIn from mix down bytes line width m j → (down ≡ false) × (a + 64 * bytes ≤ m)
source_pattern from a x y mix down bytes line width m j e p = subst (λ (z : From). SourceIn z mix down bytes line width m j) e p

-- the low end of line j of a job, drawn from address a
abbrev low : Job → ℕ → ℕ → ℕ
low job a j = low_end job.down job.bytes job.line job.width a j

module _ (m : ℕ) (job : Job) (ok : JobOk m job) where
  pub line_bytes_lem : job.width * job.bytes ≤ 2048
  line_bytes_lem = mul-le-mul ok.width ok.few_bytes

  -- a line of it, lent
  pub lent_line : (line : List ℕ) → length line ≡ job.width * job.bytes → LineOk job.bytes job.width line
  lent_line line e = record { some_bytes = ok.some_bytes; few_bytes = ok.few_bytes; few = ok.width; size = e }

  -- its destination lines
  to_line : (j : ℕ) → j < job.height → LineIn job.down job.bytes job.line job.width job.destination m j
  to_line j h = all_lines job.down job.bytes job.line job.width job.destination m job.height ok.some_height ok.destination j h

  pub to_zero : (j : ℕ) → j < job.height → AboveZero job.down job.bytes job.line job.width job.destination j
  to_zero j h = above_zero job.down job.bytes job.line job.width job.destination m j (to_line j h)

  pub to_room : (j r : ℕ) → j < job.height → r ≡ low job job.destination j → r + job.width * job.bytes ≤ m
  to_room j r h e = low_room job.down job.bytes job.line job.width job.destination m j r (to_line j h) e

  -- a move's source lines
  from_line : (s : ℕ) → job.from ≡ Memory s → (j : ℕ) → j < job.height → LineIn job.down job.bytes job.line job.width s m j
  from_line s e j h =
      all_lines job.down job.bytes job.line job.width s m job.height ok.some_height
      (source_memory job.from s job.mix job.down job.bytes job.line job.width m (job.height - 1) e ok.source).0 j h

  pub from_zero : (s : ℕ) → job.from ≡ Memory s → (j : ℕ) → j < job.height → AboveZero job.down job.bytes job.line job.width s j
  from_zero s e j h = above_zero job.down job.bytes job.line job.width s m j (from_line s e j h)

  pub from_room : (s : ℕ) → job.from ≡ Memory s → (j r : ℕ) → j < job.height → r ≡ low job s j → r + job.width * job.bytes ≤ m
  from_room s e j r h er = low_room job.down job.bytes job.line job.width s m j r (from_line s e j h) er

  from_even : (s : ℕ) → job.from ≡ Memory s → s % job.bytes ≡ 0
  from_even s e = (source_memory job.from s job.mix job.down job.bytes job.line job.width m (job.height - 1) e ok.source).1

  -- a blit of one colour goes upwards and stores it
  of_colour : (c : ℕ) → job.from ≡ Colour c → (job.down ≡ false) × (job.mix ≡ Store)
  of_colour c e = source_colour job.from c job.mix job.down job.bytes job.line job.width m (job.height - 1) e ok.source

  -- a pattern goes upwards and lies in the memory
  pub of_pattern : (a x y : ℕ) → job.from ≡ Pattern a x y → (job.down ≡ false) × (a + 64 * job.bytes ≤ m)
  of_pattern a x y e = source_pattern job.from a x y job.mix job.down job.bytes job.line job.width m (job.height - 1) e ok.source

-- ---- a line of the chip

-- by its source, in places of the line
chip_line_lem : (job : Job) (source : Source) (j m : ℕ) (fetch : List ℕ → ℕ → ℕ) (memory : List ℕ)
    → LineIn job.down job.bytes job.line job.width job.destination m j
    → ((x : List ℕ) (i : ℕ) → i < job.width → fetch x i ≡ source_pixel job.bytes (towards job.down) x source (j * job.line + i * job.bytes) i j)
    → pixels job.bytes (mix_of job.mix job.bytes) (λ i. low job job.destination j + spot job.down job.bytes job.width i)
    fetch job.width memory
    ≡ chip_line (blit_of job source) (towards job.down) j job.width memory
unfolding chip_line blit_of
chip_line_lem job source j m fetch memory p e =
    pixels_ext job.bytes (mix_of job.mix job.bytes) (λ i. low job job.destination j + spot job.down job.bytes job.width i)
    (λ i. along (towards job.down) job.destination (j * job.line + i * job.bytes)) fetch
    (λ x i. source_pixel job.bytes (towards job.down) x source (j * job.line + i * job.bytes) i j) job.width memory
    (λ i h. sym (low_spot job.down job.bytes job.line job.width job.destination m j i p h)) e

-- a line of a source that is known before, drawn upwards from its low end
pub given_line : (job : Job) (memory : List ℕ) → JobOk (length memory) job → (f : ℕ → ℕ → ℕ) (j d : ℕ) (fetch : List ℕ → ℕ → ℕ) → j < job.height
    → job.down ≡ false → d ≡ low job job.destination j → ((x : List ℕ) (i : ℕ) → i < job.width → fetch x i ≡ f i j)
    → pixels job.bytes (mix_of job.mix job.bytes) (λ i. d + i * job.bytes) fetch job.width memory
    ≡ chip_line (blit_of job (given f)) (towards job.down) j job.width memory
unfolding rank
given_line job memory ok f j d fetch hj up ed same =
    ap₂ (λ (x : ℕ) (t : Bool).
    pixels job.bytes (mix_of job.mix job.bytes) (λ i. x + spot t job.bytes job.width i) fetch job.width memory) ed (sym up)
    ∙ chip_line_lem job (given f) j (length memory) fetch memory (to_line (length memory) job ok j hj) same

-- a line of one colour
pub fill_back : (job : Job) (memory : List ℕ) → JobOk (length memory) job → (j c d k : ℕ) (l' : List ℕ) → j < job.height
    → job.from ≡ Colour c → d ≡ low job job.destination j → k ≡ job.width * job.bytes
    → l' ≡ straight_line job.bytes (λ s d. s) (λ i. c) job.width (take k (drop d memory))
    → take d memory ++ (l' ++ drop k (drop d memory)) ≡ chip_line (blit_of job (given (λ i n. c))) (towards job.down) j job.width memory
fill_back job memory ok j c d k l' hj ef ed ek e =
    let plain = of_colour (length memory) job ok c ef in
    fill_put_back job.bytes job.width d k c memory l' ek (to_room (length memory) job ok j d hj ed) e
    ∙ ap (λ (x : Mix). pixels job.bytes (mix_of x job.bytes) (λ i. d + i * job.bytes) (λ m i. c) job.width memory) (sym plain.1)
    ∙ given_line job memory ok (λ i n. c) j d (λ m i. c) hj plain.0 ed (λ x i h. refl)

-- a line of a pattern's rows, tiled
pub rows_line : (job : Job) (memory : List ℕ) → JobOk (length memory) job → (rows : List (List ℕ)) (x y j d : ℕ) (old source : List ℕ)
    → j < job.height → job.down ≡ false → d ≡ low job job.destination j → max 16 job.width * job.bytes ≤ length old
    → source ≡ straight_line job.bytes (λ s d. s) (λ i. get_or (get_or rows ((y + j) % 8) []) ((x + i) % 8) 0) (max 16 job.width) old
    → pixels job.bytes (mix_of job.mix job.bytes) (λ i. d + i * job.bytes) (λ m i. get_pixel job.bytes source (i * job.bytes)) job.width memory
    ≡ chip_line (blit_of job (given (λ i k. rows_pixel job.bytes rows (x + i) (y + k)))) (towards job.down) j job.width memory
unfolding rows_pixel
rows_line job memory ok rows x y j d old source hj up ed room es =
    given_line job memory ok (λ i k. rows_pixel job.bytes rows (x + i) (y + k)) j d (λ m i. get_pixel job.bytes source (i * job.bytes)) hj up ed
    (λ m i h.
    ap (λ (s : List ℕ). get_pixel job.bytes s (i * job.bytes)) es
    ∙ stored_pixel_lem job.bytes (λ n. get_or (get_or rows ((y + j) % 8) []) ((x + n) % 8) 0) old (max 16 job.width) i (omega arith) room)

-- a line of eight source lines, from the part of them that it draws
pub part_line : (job : Job) (memory : List ℕ) → JobOk (length memory) job → (j d size : ℕ) (lines : List ℕ) → j < job.height → job.down ≡ false
    → d ≡ low job job.destination j → size ≡ 2048 → 16384 ≤ length lines
    → pixels job.bytes (mix_of job.mix job.bytes) (λ i. d + i * job.bytes)
    (λ m i. get_pixel job.bytes (take size (drop (j % 8 * 2048) lines)) (i * job.bytes)) job.width memory
    ≡ chip_line (blit_of job (given (λ i k. lines_pixel job.bytes lines i k))) (towards job.down) j job.width memory
unfolding lines_pixel
part_line job memory ok j d size lines hj up ed es room =
    let part : ℕ = j % 8 in
    let eighth : part < 8 = mod-lt j (lit< tt) in
    given_line job memory ok (λ i k. lines_pixel job.bytes lines i k) j d
    (λ m i. get_pixel job.bytes (take size (drop (part * 2048) lines)) (i * job.bytes)) hj up ed
    (λ m i h.
    part_pixel job.bytes (part * 2048) size lines (i * job.bytes) (omega arith)
    (omega (arith, step_fits job.bytes i job.width h, mul-le-mul ok.width ok.few_bytes)))

-- a line of a move
pub move_back : (job : Job) (memory : List ℕ) → JobOk (length memory) job → (j a s d k lag : ℕ) (old source l' : List ℕ) → j < job.height
    → job.from ≡ Memory a → s ≡ low job a j → d ≡ low job job.destination j → k ≡ job.width * job.bytes
    → lag ≡ lag_of job.down job.bytes job.width s d → job.width * job.bytes ≤ length old
    → source ≡ copied memory s (job.width * job.bytes) old
    → l' ≡ work_line job.down job.bytes job.width job.mix source lag job.width (take k (drop d memory))
    → take d memory ++ (l' ++ drop k (drop d memory)) ≡ chip_line (blit_of job (in_memory a)) (towards job.down) j job.width memory
move_back job memory ok j a s d k lag old source l' hj ef es ed ek el room er e =
    let to = to_line (length memory) job ok j hj in
    let from = from_line (length memory) job ok a ef j hj in
    let even-s : s % job.bytes ≡ 0 =
    rw es (low_even job.down job.bytes job.line job.width a j (from_even (length memory) job ok a ef) ok.even_line) in
    let even-d : d % job.bytes ≡ 0 =
    rw ed (low_even job.down job.bytes job.line job.width job.destination j ok.even ok.even_line) in
    put_back job.down job.bytes job.width d k (lag_of job.down job.bytes job.width s d) job.mix
    (λ m i. get_pixel job.bytes m (s + spot job.down job.bytes job.width i)) (copied memory s (job.width * job.bytes) old) memory ek
    (to_room (length memory) job ok j d hj ed)
    (sourced_move job.down job.bytes job.width s d job.mix old memory ok.some_bytes even-s even-d room)
    l'
    (e ∙ ap₂ (λ (x : List ℕ) (y : ℕ). work_line job.down job.bytes job.width job.mix x y job.width (take k (drop d memory))) er el)
    ∙ ap (λ (x : ℕ).
    pixels job.bytes (mix_of job.mix job.bytes) (λ i. x + spot job.down job.bytes job.width i)
    (λ m i. get_pixel job.bytes m (s + spot job.down job.bytes job.width i)) job.width memory) ed
    ∙ chip_line_lem job (in_memory a) j (length memory) (λ m i. get_pixel job.bytes m (s + spot job.down job.bytes job.width i)) memory to
    (λ x i h.
    ap (get_pixel job.bytes x)
    (ap (λ (y : ℕ). y + spot job.down job.bytes job.width i) es
    ∙ sym (low_spot job.down job.bytes job.line job.width a (length memory) j i from h)))

-- ---- line after line

pub job_in : (job : Job) (m n : ℕ) → n ≡ m → JobOk m job → JobOk n job
job_in job m n e ok = subst (λ (x : ℕ). JobOk x job) (sym e) ok

module _ (job : Job) (source : Source) where
  -- n lines of it
  abbrev lines : ℕ → List ℕ → List ℕ
  lines n old = chip_lines (blit_of job source) (towards job.down) n old

  pub lines_none : (m : List ℕ) → m ≡ lines 0 m
  unfolding chip_lines
  lines_none m = refl

  pub lines_more : (j : ℕ) (old m m' : List ℕ) → m ≡ lines j old → m' ≡ chip_line (blit_of job source) (towards job.down) j job.width m
      → m' ≡ lines (suc j) old
  unfolding chip_lines blit_of
  lines_more j old m m' e e' = e' ∙ ap (chip_line (blit_of job source) (towards job.down) j job.width) e

  pub lines_end : (j : ℕ) (old m : List ℕ) → m ≡ lines j old → j ≡ job.height → m ≡ chip_blit (blit_of job source) (towards job.down) old
  unfolding chip_blit blit_of
  lines_end j old m e h = e ∙ ap (λ (k : ℕ). lines k old) h

-- ---- the whole job

-- of a source that is known before only the pixels of the rectangle's columns are drawn
same_lines : (job : Job) (f g : ℕ → ℕ → ℕ) → ((i j : ℕ) → i < job.width → f i j ≡ g i j) → (n : ℕ) (old : List ℕ)
    → lines job (given f) n old ≡ lines job (given g) n old
unfolding chip_lines chip_line blit_of
same_lines job f g same zero old = refl
same_lines job f g same (suc n) old =
    let place : ℕ → ℕ = λ i. along (towards job.down) job.destination (n * job.line + i * job.bytes) in
    pixels_ext job.bytes (mix_of job.mix job.bytes) place place (λ x i. f i n) (λ x i. g i n) job.width (lines job (given f) n old)
    (λ i h. refl) (λ x i h. same i n h)
    ∙ ap (pixels job.bytes (mix_of job.mix job.bytes) place (λ x i. g i n) job.width) (same_lines job f g same n old)

-- from eight source lines that are a pattern's rows, tiled, all its lines
pub tiled_fill : (job : Job) (rows : List (List ℕ)) (x y : ℕ) (blank source old m : List ℕ) → job.bytes ≤ 2 → job.width ≤ 1024 → 16384 ≤ length blank
    → source ≡ tiled_lines job.bytes rows x y job.width 8 blank
    → m ≡ chip_blit (blit_of job (given (λ i k. lines_pixel job.bytes source i k))) (towards job.down) old
    → m ≡ chip_blit (blit_of job (given (λ i k. rows_pixel job.bytes rows (x + i) (y + k)))) (towards job.down) old
unfolding lines_pixel chip_blit blit_of
tiled_fill job rows x y blank source old m few wide room es e =
    e
    ∙ same_lines job (λ i k. lines_pixel job.bytes source i k) (λ i k. rows_pixel job.bytes rows (x + i) (y + k))
    (λ i k h.
    ap (λ (s : List ℕ). lines_pixel job.bytes s i k) es ∙ lines_pixel_lem job.bytes rows x y job.width few wide i k blank h room)
    job.height old

-- from the rows that are read before its first pixel, a pattern fill
pub rows_fill : (job : Job) (rows : List (List ℕ)) (a x y : ℕ) (old m : List ℕ) → ((k : ℕ) → get_or old k 0 < 256) → rows ≡ pattern_rows job.bytes old a
    → m ≡ chip_blit (blit_of job (given (λ i k. rows_pixel job.bytes rows (x % 8 + i) (y % 8 + k)))) (towards job.down) old
    → m ≡ chip_blit (blit_of job (given (λ i k. pattern_pixel job.bytes old a (x + i) (y + k)))) (towards job.down) old
rows_fill job rows a x y old m small er e =
    e
    ∙ ap (λ (f : ℕ → ℕ → ℕ). chip_blit (blit_of job (given f)) (towards job.down) old)
    (fun_ext (λ i. fun_ext (λ k.
    rows_from_lem job.bytes rows x y i k
    ∙ ap (λ (r : List (List ℕ)). rows_pixel job.bytes r (x + i) (y + k)) er
    ∙ rows_pixel_lem job.bytes old a (x + i) (y + k) small)))

-- by where its source pixels come from
pub performs : (job : Job) (from : From) (old m : List ℕ) → job.from ≡ from
    → m ≡ chip_blit (blit_of job (source_of from job.bytes old)) (towards job.down) old → m ≡ performed job old
performs job from old m ef e = e ∙ ap (λ (x : From). chip_blit (blit_of job (source_of x job.bytes old)) (towards job.down) old) (sym ef)
