-- Host words of a write blit (01, "Blits": "Write takes, for each line, (width + 1) ÷ 2 words at depth 8, low byte first,
-- spare high byte ignored; width words at 16").
use Rattle.std.specs.Prelude.{ℕ, suc, ◌+◌, ◌-◌, ◌*◌, ◌/◌, ◌%◌, min, List, [], ◌∷◌, get_or}
use Rattle.pixel.specs.Pixel.{get_pixel}
use Rattle.blit.specs.Blit.{Blit, pixels, offset}

-- pixels in a word: two of one byte, one of two bytes
abbrev pub per_word : ℕ → ℕ
per_word bytes = 2 / bytes

-- words of a line of pixels
abbrev pub words_across : ℕ → ℕ → ℕ
words_across bytes width = (width * bytes + 1) / 2

-- pixel i of a word, the low byte first
unfoldable pub word_pixel : ℕ → ℕ → ℕ → ℕ
word_pixel bytes word i = get_pixel bytes (word % 256 ∷ word / 256 % 256 ∷ []) (i * bytes)

-- the pixel that the words of a write hold for pixel i of line j
unfoldable pub host_pixel : ℕ → ℕ → List ℕ → ℕ → ℕ → ℕ
host_pixel bytes width words i j =
    word_pixel bytes (get_or words (j * words_across bytes width + i / per_word bytes) 0) (i % per_word bytes)

-- word t of line j comes: its pixels are drawn as far as the line has them
unfoldable pub chip_word : Blit → ℕ → ℕ → ℕ → List ℕ → List ℕ
chip_word b j t word old =
    let first = t * per_word b.bytes in
    pixels b.bytes b.combine
    (λ i. b.destination + offset b (first + i) j)
    (λ m i. word_pixel b.bytes word i)
    (min (per_word b.bytes) (b.width - first)) old

-- ---- runs of words; only contracts of the functions, and laws, cite them
-- words of line j come one after another, from word t on
unfoldable pub chip_words : Blit → ℕ → ℕ → List ℕ → List ℕ → List ℕ
chip_words b j t [] old = old
chip_words b j t (w ∷ ws) old = chip_words b j (suc t) ws (chip_word b j t w old)

-- the bytes of words, the low one first
unfoldable pub word_bytes : List ℕ → List ℕ
word_bytes [] = []
word_bytes (w ∷ ws) = w % 256 ∷ w / 256 % 256 ∷ word_bytes ws
