-- Words of fields 6 to 9 as a person writes them (this project's profile).
use Rattle.std.specs.Prelude.{◌≡◌, ◌≢◌, ℕ, ◌<◌, Bool, ◌||◌, List, [], ◌∷◌, filter, codes, length, ⊤}
use Rattle.std.specs.Str.{bytes_eq}
use Rattle.std.specs.List.{slice_split, HoldsAt}
use Rattle.std.specs.Prelude.{◌==◌}
use Rattle.vl_config.specs.declared.class.Class.TheVariants as class
use Rattle.policing.specs.declared.verdict.Policing.TheVariants as policing
use Rattle.integrity.specs.declared.verdict.Integrity.TheVariants as integrity
use Rattle.redundancy.specs.declared.verdict.Redundancy.TheVariants as redundancy
use Rattle.redundancy.specs.Word.{redundancy_word}
use Rattle.integrity.specs.Word.{integrity_word}
use Rattle.policing.specs.Word.{policing_word}
use Rattle.vl_config.specs.Class.{class_word}
use Rattle.ledger_text.specs.declared.word.Word.{Word}
use Rattle.ledger_text.specs.declared.word.Word.TheVariants as words
use Rattle.ledger_text.specs.declared.word_list.WordFault.{WordFault}
use Rattle.ledger_text.specs.declared.word_list.WordFault.TheVariants as faults

abbrev pub is_comma : ℕ → Bool
is_comma byte = byte == 44

-- commas separate the items
abbrev pub items_of : List ℕ → List (List ℕ)
items_of text = slice_split is_comma text

-- a word as the ledger writes it
abbrev pub word_text : Word → List ℕ
word_text (words.Class class) = class_word class
word_text (words.Policing policing) = policing_word policing
word_text (words.Integrity integrity) = integrity_word integrity
word_text (words.Redundancy redundancy) = redundancy_word redundancy

-- the fate of a frame whose last word this is; the word itself where it is no last one
abbrev pub group_text : Word → List ℕ
group_text (words.Class class.Regular) = word_text (words.Class class.Regular)
group_text (words.Class _) = codes "discarded"
group_text (words.Policing policing.Within) = word_text (words.Policing policing.Within)
group_text (words.Policing policing.Excess) = codes "discarded"
group_text (words.Integrity integrity.Out) = codes "discarded"
group_text (words.Integrity integrity) = word_text (words.Integrity integrity)
group_text (words.Redundancy redundancy.Copy) = codes "discarded"
group_text (words.Redundancy _) = codes "delivered"

-- `faults` where a frame whose last word this is was discarded, and not as a copy; else the word itself
abbrev pub fault_text : Word → List ℕ
fault_text (words.Class class.Regular) = word_text (words.Class class.Regular)
fault_text (words.Class _) = codes "faults"
fault_text (words.Policing policing.Within) = word_text (words.Policing policing.Within)
fault_text (words.Policing policing.Excess) = codes "faults"
fault_text (words.Integrity integrity.Out) = codes "faults"
fault_text (words.Integrity integrity) = word_text (words.Integrity integrity)
fault_text (words.Redundancy redundancy) = word_text (words.Redundancy redundancy)

-- the item is the word, says what became of a frame whose last word it is, or is `faults` where that is one
abbrev pub names : List ℕ → Word → Bool
names item word = (bytes_eq item (word_text word) || bytes_eq item (group_text word)) || bytes_eq item (fault_text word)

-- all words of fields 6 to 9, field by field
abbrev pub all_words : List Word
all_words =
    words.Class class.Cut ∷ words.Class class.Runt ∷ words.Class class.Oversize ∷ words.Class class.Foreign
    ∷ words.Class class.Unconfigured ∷ words.Class class.TooLong ∷ words.Class class.Regular
    ∷ words.Policing policing.Within ∷ words.Policing policing.Excess
    ∷ words.Integrity integrity.First ∷ words.Integrity integrity.Reset ∷ words.Integrity integrity.Next
    ∷ words.Integrity integrity.Skip ∷ words.Integrity integrity.Off ∷ words.Integrity integrity.Out
    ∷ words.Redundancy redundancy.Deliver ∷ words.Redundancy redundancy.Copy ∷ words.Redundancy redundancy.Both ∷ []

-- the words that an item stands for, field by field
unfoldable pub words_named : List ℕ → List Word
words_named item = filter (names item) all_words

-- The item stands for no word, and each item before it does for some. Memory may be refused at any text.
abbrev pub IsWordFault : List (List ℕ) → WordFault → Type 0
IsWordFault items (faults.Item index) =
    (index < length items) × HoldsAt (λ item. words_named item ≡ []) items index
    × ((k : ℕ) → k < index → HoldsAt (λ item. words_named item ≢ []) items k)
IsWordFault items faults.Memory = ⊤
