-- The numbers of docs/FORMAT.md, "A record": registers and sizes, numbered in the Rust's order, and operations; and what stands at a
-- number.
use Rattle.arithmetic.specs.declared.Operation.{Operation}
use Rattle.std.specs.Prelude.{List, [], ◌∷◌, ℕ, Option, slice_get}
use Rattle.instruction_set.specs.declared.ArgumentSize.{ArgumentSize}
use Rattle.instruction_set.specs.declared.ArgumentSize.TheVariants.{Bit64, Bit32, Bit16, Bit8}
use Rattle.instruction_set.specs.declared.Register.{Register}
use Rattle.instruction_set.specs.declared.Register.TheVariants as reg
use Rattle.arithmetic.specs.declared.Operation.TheVariants.{Add, AddWithCarry, Subtract, SubtractWithBorrow, Compare}

unfoldable pub register_number : Register → ℕ
register_number reg.RAX = 0
register_number reg.RBX = 1
register_number reg.RCX = 2
register_number reg.RDX = 3
register_number reg.RSP = 4
register_number reg.RBP = 5
register_number reg.RSI = 6
register_number reg.RDI = 7
register_number reg.R8 = 8
register_number reg.R9 = 9
register_number reg.R10 = 10
register_number reg.R11 = 11
register_number reg.R12 = 12
register_number reg.R13 = 13
register_number reg.R14 = 14
register_number reg.R15 = 15
register_number reg.RIP = 16
register_number reg.CR0 = 17
register_number reg.CR2 = 18
register_number reg.CR3 = 19
register_number reg.CR4 = 20
register_number reg.CR8 = 21
register_number reg.EAX = 22
register_number reg.EBX = 23
register_number reg.ECX = 24
register_number reg.EDX = 25
register_number reg.ESP = 26
register_number reg.EBP = 27
register_number reg.ESI = 28
register_number reg.EDI = 29
register_number reg.R8D = 30
register_number reg.R9D = 31
register_number reg.R10D = 32
register_number reg.R11D = 33
register_number reg.R12D = 34
register_number reg.R13D = 35
register_number reg.R14D = 36
register_number reg.R15D = 37
register_number reg.AX = 38
register_number reg.CX = 39
register_number reg.DX = 40
register_number reg.BX = 41
register_number reg.SP = 42
register_number reg.BP = 43
register_number reg.SI = 44
register_number reg.DI = 45
register_number reg.R8W = 46
register_number reg.R9W = 47
register_number reg.R10W = 48
register_number reg.R11W = 49
register_number reg.R12W = 50
register_number reg.R13W = 51
register_number reg.R14W = 52
register_number reg.R15W = 53
register_number reg.AL = 54
register_number reg.CL = 55
register_number reg.DL = 56
register_number reg.BL = 57
register_number reg.AH = 58
register_number reg.CH = 59
register_number reg.DH = 60
register_number reg.BH = 61
register_number reg.SPL = 62
register_number reg.BPL = 63
register_number reg.SIL = 64
register_number reg.DIL = 65
register_number reg.R8B = 66
register_number reg.R9B = 67
register_number reg.R10B = 68
register_number reg.R11B = 69
register_number reg.R12B = 70
register_number reg.R13B = 71
register_number reg.R14B = 72
register_number reg.R15B = 73
register_number reg.ES = 74
register_number reg.CS = 75
register_number reg.SS = 76
register_number reg.DS = 77
register_number reg.FS = 78
register_number reg.GS = 79

abbrev pub size_number : ArgumentSize → ℕ
size_number Bit64 = 0
size_number Bit32 = 1
size_number Bit16 = 2
size_number Bit8 = 3

-- ---- what stands at a number: the one of the list, and nothing past its last
-- "Registers are numbered in the Rust's order, RAX 0 to GS 79"
abbrev pub registers : List Register
registers =
    reg.RAX ∷ reg.RBX ∷ reg.RCX ∷ reg.RDX ∷ reg.RSP ∷ reg.RBP ∷ reg.RSI ∷ reg.RDI ∷
    reg.R8 ∷ reg.R9 ∷ reg.R10 ∷ reg.R11 ∷ reg.R12 ∷ reg.R13 ∷ reg.R14 ∷ reg.R15 ∷
    reg.RIP ∷ reg.CR0 ∷ reg.CR2 ∷ reg.CR3 ∷ reg.CR4 ∷ reg.CR8 ∷
    reg.EAX ∷ reg.EBX ∷ reg.ECX ∷ reg.EDX ∷ reg.ESP ∷ reg.EBP ∷ reg.ESI ∷ reg.EDI ∷
    reg.R8D ∷ reg.R9D ∷ reg.R10D ∷ reg.R11D ∷ reg.R12D ∷ reg.R13D ∷ reg.R14D ∷ reg.R15D ∷
    reg.AX ∷ reg.CX ∷ reg.DX ∷ reg.BX ∷ reg.SP ∷ reg.BP ∷ reg.SI ∷ reg.DI ∷
    reg.R8W ∷ reg.R9W ∷ reg.R10W ∷ reg.R11W ∷ reg.R12W ∷ reg.R13W ∷ reg.R14W ∷ reg.R15W ∷
    reg.AL ∷ reg.CL ∷ reg.DL ∷ reg.BL ∷ reg.AH ∷ reg.CH ∷ reg.DH ∷ reg.BH ∷
    reg.SPL ∷ reg.BPL ∷ reg.SIL ∷ reg.DIL ∷ reg.R8B ∷ reg.R9B ∷ reg.R10B ∷ reg.R11B ∷
    reg.R12B ∷ reg.R13B ∷ reg.R14B ∷ reg.R15B ∷
    reg.ES ∷ reg.CS ∷ reg.SS ∷ reg.DS ∷ reg.FS ∷ reg.GS ∷ []

unfoldable pub register_at : ℕ → Option Register
register_at n = slice_get registers n

-- "0 Bit64, 1 Bit32, 2 Bit16, 3 Bit8"
unfoldable pub size_at : ℕ → Option ArgumentSize
size_at n = slice_get (Bit64 ∷ Bit32 ∷ Bit16 ∷ Bit8 ∷ []) n

-- "operations add 0, add with carry, subtract, subtract with borrow, compare 4"
unfoldable pub operation_at : ℕ → Option Operation
operation_at n = slice_get (Add ∷ AddWithCarry ∷ Subtract ∷ SubtractWithBorrow ∷ Compare ∷ []) n
