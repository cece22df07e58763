-- The table of registers (RULES 2.4): for each register the number of its parent and which part of it the register is; for each part its
-- lowest byte lane, how many lanes are read, and how many a write rewrites.
use Rattle.std.specs.Prelude.{ℕ}
use Rattle.instruction_set.specs.declared.Part.{Part}
use Rattle.instruction_set.specs.declared.Part.TheVariants.{Whole, Low32, Low16, Low8, High8, Nothing}
use Rattle.instruction_set.specs.declared.Register.{Register}
use Rattle.instruction_set.specs.declared.Register.TheVariants.{RAX, RBX, RCX, RDX, RSP, RBP, RSI, RDI, R8, R9, R10, R11, R12, R13}
use Rattle.instruction_set.specs.declared.Register.TheVariants.{R14, R15, RIP, CR0, CR2, CR3, CR4, CR8, EAX, EBX, ECX, EDX, ESP}
use Rattle.instruction_set.specs.declared.Register.TheVariants.{EBP, ESI, EDI, R8D, R9D, R10D, R11D, R12D, R13D, R14D, R15D, AX}
use Rattle.instruction_set.specs.declared.Register.TheVariants.{CX, DX, BX, SP, BP, SI, DI, R8W, R9W, R10W, R11W, R12W, R13W, R14W}
use Rattle.instruction_set.specs.declared.Register.TheVariants.{R15W, AL, CL, DL, BL, AH, CH, DH, BH, SPL, BPL, SIL, DIL, R8B, R9B}
use Rattle.instruction_set.specs.declared.Register.TheVariants.{R10B, R11B, R12B, R13B, R14B, R15B, ES, CS, SS, DS, FS, GS}

-- parents are numbered RAX 0, RBX, RCX, RDX, RSP, RBP, RSI, RDI, R8 to R15, RIP 16, CR0, CR2, CR3, CR4, CR8 21 (RULES 2.2)
unfoldable pub row : Register → ℕ × Part
row RAX = (0, Whole)
row RBX = (1, Whole)
row RCX = (2, Whole)
row RDX = (3, Whole)
row RSP = (4, Whole)
row RBP = (5, Whole)
row RSI = (6, Whole)
row RDI = (7, Whole)
row R8 = (8, Whole)
row R9 = (9, Whole)
row R10 = (10, Whole)
row R11 = (11, Whole)
row R12 = (12, Whole)
row R13 = (13, Whole)
row R14 = (14, Whole)
row R15 = (15, Whole)
row RIP = (16, Whole)
row CR0 = (17, Whole)
row CR2 = (18, Whole)
row CR3 = (19, Whole)
row CR4 = (20, Whole)
row CR8 = (21, Whole)
row EAX = (0, Low32)
row EBX = (1, Low32)
row ECX = (2, Low32)
row EDX = (3, Low32)
row ESP = (4, Low32)
row EBP = (5, Low32)
row ESI = (6, Low32)
row EDI = (7, Low32)
row R8D = (8, Low32)
row R9D = (9, Low32)
row R10D = (10, Low32)
row R11D = (11, Low32)
row R12D = (12, Low32)
row R13D = (13, Low32)
row R14D = (14, Low32)
row R15D = (15, Low32)
row AX = (0, Low16)
row CX = (2, Low16)
row DX = (3, Low16)
row BX = (1, Low16)
row SP = (4, Low16)
row BP = (5, Low16)
row SI = (6, Low16)
row DI = (7, Low16)
row R8W = (8, Low16)
row R9W = (9, Low16)
row R10W = (10, Low16)
row R11W = (11, Low16)
row R12W = (12, Low16)
row R13W = (13, Low16)
row R14W = (14, Low16)
row R15W = (15, Low16)
row AL = (0, Low8)
row CL = (2, Low8)
row DL = (3, Low8)
row BL = (1, Low8)
row AH = (0, High8)
row CH = (2, High8)
row DH = (3, High8)
row BH = (1, High8)
row SPL = (4, Low8)
row BPL = (5, Low8)
row SIL = (6, Low8)
row DIL = (7, Low8)
row R8B = (8, Low8)
row R9B = (9, Low8)
row R10B = (10, Low8)
row R11B = (11, Low8)
row R12B = (12, Low8)
row R13B = (13, Low8)
row R14B = (14, Low8)
row R15B = (15, Low8)
-- a segment has no parent: with no lanes, 0 is never read or rewritten
row ES = (0, Nothing)
row CS = (0, Nothing)
row SS = (0, Nothing)
row DS = (0, Nothing)
row FS = (0, Nothing)
row GS = (0, Nothing)

abbrev pub parent_of : Register → ℕ
parent_of r = (row r).0

abbrev pub part_of : Register → Part
part_of r = (row r).1

-- the lowest lane: 1 for AH, BH, CH, DH
abbrev pub first_lane : Part → ℕ
first_lane Whole = 0
first_lane Low32 = 0
first_lane Low16 = 0
first_lane Low8 = 0
first_lane High8 = 1
first_lane Nothing = 0

-- how many lanes a read looks at; a segment has none
abbrev pub lanes_read : Part → ℕ
lanes_read Whole = 8
lanes_read Low32 = 4
lanes_read Low16 = 2
lanes_read Low8 = 1
lanes_read High8 = 1
lanes_read Nothing = 0

-- how many lanes a write rewrites: a 32-bit write all eight
abbrev pub lanes_rewritten : Part → ℕ
lanes_rewritten Whole = 8
lanes_rewritten Low32 = 8
lanes_rewritten Low16 = 2
lanes_rewritten Low8 = 1
lanes_rewritten High8 = 1
lanes_rewritten Nothing = 0
