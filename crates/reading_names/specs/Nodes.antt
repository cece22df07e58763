-- The beginnings of the registers' names (RULES 6.3), which a reader of names goes through letter by letter: 102, by length and then by
-- the alphabet. That these are all of them, and nothing else, is proved (`beginning`, `begins_name`: proofs/Spelling.antt).
use Rattle.instruction_set.specs.declared.Register.{Register}
use Rattle.std.specs.Prelude.{Option, None, Bool, true, false, cond, ◌&&◌, List, [], ◌∷◌, ◌++◌, map, ℕ, suc, eqb, ltb, get_or, position}
use Rattle.wire_numbers.specs.Numbers.{registers, register_at}
use Rattle.text_pieces.specs.Ascii.{ascii}
use Rattle.text_names.specs.Names.{name_of}

unfoldable pub beginnings : List (List ℕ)
beginnings =
    ascii "" ∷
    ascii "a" ∷ ascii "b" ∷ ascii "c" ∷ ascii "d" ∷ ascii "e" ∷ ascii "f" ∷ ascii "g" ∷ ascii "r" ∷ ascii "s" ∷
    ascii "ah" ∷ ascii "al" ∷ ascii "ax" ∷ ascii "bh" ∷ ascii "bl" ∷ ascii "bp" ∷ ascii "bx" ∷ ascii "ch" ∷ ascii "cl" ∷ ascii "cr" ∷
    ascii "cs" ∷ ascii "cx" ∷ ascii "dh" ∷ ascii "di" ∷ ascii "dl" ∷ ascii "ds" ∷ ascii "dx" ∷ ascii "ea" ∷ ascii "eb" ∷ ascii "ec" ∷
    ascii "ed" ∷ ascii "es" ∷ ascii "fs" ∷ ascii "gs" ∷ ascii "r1" ∷ ascii "r8" ∷ ascii "r9" ∷ ascii "ra" ∷ ascii "rb" ∷ ascii "rc" ∷
    ascii "rd" ∷ ascii "ri" ∷ ascii "rs" ∷ ascii "si" ∷ ascii "sp" ∷ ascii "ss" ∷
    ascii "bpl" ∷ ascii "cr0" ∷ ascii "cr2" ∷ ascii "cr3" ∷ ascii "cr4" ∷ ascii "cr8" ∷ ascii "dil" ∷ ascii "eax" ∷ ascii "ebp" ∷
    ascii "ebx" ∷ ascii "ecx" ∷ ascii "edi" ∷ ascii "edx" ∷ ascii "esi" ∷ ascii "esp" ∷ ascii "r10" ∷ ascii "r11" ∷ ascii "r12" ∷
    ascii "r13" ∷ ascii "r14" ∷ ascii "r15" ∷ ascii "r8b" ∷ ascii "r8d" ∷ ascii "r8w" ∷ ascii "r9b" ∷ ascii "r9d" ∷ ascii "r9w" ∷
    ascii "rax" ∷ ascii "rbp" ∷ ascii "rbx" ∷ ascii "rcx" ∷ ascii "rdi" ∷ ascii "rdx" ∷ ascii "rip" ∷ ascii "rsi" ∷ ascii "rsp" ∷
    ascii "sil" ∷ ascii "spl" ∷
    ascii "r10b" ∷ ascii "r10d" ∷ ascii "r10w" ∷ ascii "r11b" ∷ ascii "r11d" ∷ ascii "r11w" ∷ ascii "r12b" ∷ ascii "r12d" ∷
    ascii "r12w" ∷ ascii "r13b" ∷ ascii "r13d" ∷ ascii "r13w" ∷ ascii "r14b" ∷ ascii "r14d" ∷ ascii "r14w" ∷ ascii "r15b" ∷
    ascii "r15d" ∷ ascii "r15w" ∷ []

-- a node is the position of a beginning; these are its letters
unfoldable pub spelt : ℕ → List ℕ
spelt n = get_or beginnings n []

-- two texts are one
abbrev pub same : List ℕ → List ℕ → Bool
same [] [] = true
same [] (y ∷ t) = false
same (x ∷ s) [] = false
same (x ∷ s) (y ∷ t) = eqb x y && same s t

-- the first position of a text in a list, or the list's length
unfoldable pub index_in : List ℕ → List (List ℕ) → ℕ
index_in s [] = 0
index_in s (t ∷ ts) = cond (same s t) 0 (suc (index_in s ts))

-- the node with one letter more, if some name begins so
unfoldable pub next_node : ℕ → ℕ → Option ℕ
next_node n b = cond (ltb n 102) (position (same (spelt n ++ (b ∷ []))) beginnings) None

-- the names in the registers' order
abbrev pub register_names : List (List ℕ)
register_names = map name_of registers

-- the register whose name the letters of a node are, if there is one
unfoldable pub register_of : ℕ → Option Register
register_of n = register_at (index_in (spelt n) register_names)
