pub mod ScreenStates
