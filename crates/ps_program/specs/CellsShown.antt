-- Masks and writes of the code as those of the definitions.
use Rattle.ps_model.specs.meaning.Compiled as model
use Rattle.ps_program.specs.declared.cells.CellMask.{CellMask}
use Rattle.ps_program.specs.declared.cells.CellWrite.{CellWrite}

abbrev pub mask_shown : CellMask → model.CellMask
mask_shown mask = record { needed = mask.needed; barred = mask.barred; one_of = mask.one_of; motions = mask.motions }

abbrev pub write_shown : CellWrite → model.CellWrite
write_shown write = record { gone = write.gone; layers = write.layers }
