pub mod RasterFacts
pub mod RasterBits
pub mod WholeWords
pub mod NeedLaws
pub mod PaletteLaws
