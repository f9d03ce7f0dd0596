-- The definitions at work, on a whole script and on rows of each form.
use Rattle.std.proofs.Common.{◌≡◌, [], ◌∷◌, Some, None, codes, refl}
use Rattle.frames.specs.Calls.{opening, adding, adapting, filling, closing, aborting, spoiling, handed_over, faulty}
use Rattle.frames.specs.declared.answers.Fault.TheVariants as fault
use Rattle.text.specs.Decimal.{decimal}
use Rattle.text.specs.Hex.{hex, unhex}
use Rattle.script.specs.Rows.{row, unfit_row, letter_of}
use Rattle.script.specs.Script.{lines, script}

fit_lines : script (codes "call,value\nN,0\nO,0021\nI,7e\nI,\nR,65535\nC,\nX,\nS,\n")
    ≡ Some (Some (filling 0) ∷ Some (opening 0x0021) ∷ Some (adding (0x7e ∷ [])) ∷ Some (adding []) ∷ Some (adapting 65535) ∷ Some closing ∷ Some aborting ∷ Some spoiling ∷ [])
unfolding lines unhex
fit_lines = refl

unfit_lines : script (codes "call,value\n\nQ,\nO,FE01\nO,021\nI,7\nR,01\nN,65536\nC\nC,0\nX,")
    ≡ Some (None ∷ None ∷ None ∷ None ∷ None ∷ None ∷ None ∷ None ∷ None ∷ None ∷ [])
unfolding lines unhex
unfit_lines = refl

no_head : script (codes "O,0021\n") ≡ None
unfolding lines
no_head = refl

plain_row : row (letter_of (opening 0x0021)) 0 (0x7e ∷ 0x04 ∷ 0x03 ∷ 0x00 ∷ 0x21 ∷ []) None ≡ codes "O,0,7e04030021,-,-,-,-\n"
unfolding hex decimal
plain_row = refl

fault_row : row (letter_of aborting) 0 (0x79 ∷ 0x50 ∷ []) (Some (faulty fault.Abort 5)) ≡ codes "X,0,7950,F,11,-,5\n"
unfolding hex decimal
fault_row = refl

delivered_row : row (letter_of closing) 0 [] (Some (handed_over 0xfe01 (1 ∷ 2 ∷ []))) ≡ codes "C,0,,D,0,fe01,2\n"
unfolding hex decimal
delivered_row = refl

the_unfit_row : unfit_row ≡ codes "?,31,,-,-,-,-\n"
unfolding hex decimal
the_unfit_row = refl
